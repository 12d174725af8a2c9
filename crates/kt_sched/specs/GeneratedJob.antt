-- The generated job: two versions of a program in which four threads sum up amounts by key, the rule file between them, and
-- the commands, each a key and an amount.
use Rattle.std.specs.Prelude.{ℕ, zero, suc, ◌%◌, List, [], ◌∷◌, ◌++◌, codes}
use Rattle.std.specs.Fmt.{decimal}

-- the lines, each with a newline behind it
abbrev pub lines : List (List ℕ) → List ℕ
lines [] = []
lines (line ∷ rest) = line ++ (codes "\n" ++ lines rest)

-- the pieces, one after the other
abbrev pub joined : List (List ℕ) → List ℕ
joined [] = []
joined (piece ∷ rest) = piece ++ joined rest

-- a version behind its struct, up to where a new key gets its sum
unfoldable pub up_to_a_new_key : List ℕ
up_to_a_new_key = lines (
    codes "struct node *table[16];" ∷
    codes "pthread_mutex_t input_lock;" ∷
    codes "pthread_mutex_t table_lock;" ∷
    codes "int finished;" ∷
    codes "" ∷
    codes "int number(void) {" ∷
    codes "  int c = getchar(), n = 0;" ∷
    codes "  if (c == EOF) { return -1; }" ∷
    codes "  while (c != ' ' && c != '\\n' && c != EOF) {" ∷
    codes "    n = n * 10 + (c - '0');" ∷
    codes "    c = getchar();" ∷
    codes "  }" ∷
    codes "  return n;" ∷
    codes "}" ∷
    codes "" ∷
    codes "void worker(int id) {" ∷
    codes "  int key, amount;" ∷
    codes "  struct node *p;" ∷
    codes "  while (1) {" ∷
    codes "    kitsune_update(\"work\");" ∷
    codes "    pthread_mutex_lock(&input_lock);" ∷
    codes "    key = number();" ∷
    codes "    if (key >= 0) { amount = number(); }" ∷
    codes "    pthread_mutex_unlock(&input_lock);" ∷
    codes "    if (key < 0) { break; }" ∷
    codes "    pthread_mutex_lock(&table_lock);" ∷
    codes "    p = table[key % 16];" ∷
    codes "    while (p && p->key != key) { p = p->next; }" ∷
    codes "    if (!p) {" ∷
    codes "      p = malloc(sizeof(struct node));" ∷
    codes "      p->key = key;" ∷
    codes "      p->sum = 0;" ∷
    [])

-- from there on, up to where an amount is added
unfoldable pub up_to_the_sum : List ℕ
up_to_the_sum = lines (
    codes "      p->next = table[key % 16];" ∷
    codes "      table[key % 16] = p;" ∷
    codes "    }" ∷
    codes "    p->sum += amount;" ∷
    [])

-- from there on, up to the summary
unfoldable pub up_to_the_summary : List ℕ
up_to_the_summary = lines (
    codes "    pthread_mutex_unlock(&table_lock);" ∷
    codes "  }" ∷
    codes "  pthread_mutex_lock(&table_lock);" ∷
    codes "  finished++;" ∷
    codes "  pthread_mutex_unlock(&table_lock);" ∷
    codes "}" ∷
    codes "" ∷
    codes "int main(void) {" ∷
    codes "  int i, keys = 0;" ∷
    codes "  long sum = 0;" ∷
    codes "  struct node *p;" ∷
    codes "  kitsune_do_automigrate();" ∷
    codes "  if (!kitsune_is_updating()) {" ∷
    codes "    puts(\"start\");" ∷
    codes "    for (i = 0; i < 4; i++) { ktthread_create(worker, i); }" ∷
    codes "  }" ∷
    codes "  while (finished < 4) { kitsune_update(\"wait\"); }" ∷
    codes "  for (i = 0; i < 16; i++) {" ∷
    codes "    p = table[i];" ∷
    codes "    while (p) { keys++; sum += p->sum; p = p->next; }" ∷
    codes "  }" ∷
    [])

-- a version: what the second one adds to the first (a field, a line that sets it for a new key, and a line that counts in
-- it), and the number that the summary tells
abbrev pub version_text : List ℕ → List ℕ → List ℕ → List ℕ → List ℕ
version_text field setting counting number = joined (
    codes "#include <stdio.h>\nstruct node { int key; long sum; " ∷
    field ∷
    codes "struct node *next; };\n" ∷
    up_to_a_new_key ∷
    setting ∷
    up_to_the_sum ∷
    counting ∷
    up_to_the_summary ∷
    codes "  printf(\"version " ∷
    number ∷
    codes " keys %d sum %ld\\n\", keys, sum);\n  return 0;\n}\n" ∷
    [])

abbrev pub first_version : List ℕ
first_version = version_text [] [] [] (codes "1")

abbrev pub second_version : List ℕ
second_version = version_text (codes "int hits; ") (codes "      p->hits = 0;\n") (codes "    p->hits++;\n") (codes "2")

-- the rule file: each old node was hit once
abbrev pub rules : List ℕ
rules = codes "INIT struct node.hits: { $out = 1; }\n"

-- the command of number i: its key and its amount
abbrev pub command : ℕ → List ℕ
command i = decimal (i % 50) ++ (codes " " ++ (decimal (i % 10) ++ codes "\n"))

-- the first n commands
abbrev pub commands : ℕ → List ℕ
commands zero = []
commands (suc n) = commands n ++ command n
