-- Worked rows of expressions with two faulty parts, and of operators and calls whose own rule is broken too. In the small file of
-- Rows `zz` and `yy` are nothing, `s` is a struct and `lk` a mutex.
use Rattle.std.specs.Prelude.{List, [], ◌∷◌, codes}
use Rattle.kt_grammar.specs.declared.operator.AssignOperator.TheVariants as assign
use Rattle.kt_grammar.specs.declared.operator.BinaryOperator.TheVariants as binary
use Rattle.kt_grammar.specs.declared.operator.PrefixOperator.TheVariants as prefix
use Rattle.kt_grammar.specs.declared.operator.StepOperator.TheVariants as step
use Rattle.kt_grammar.specs.declared.tree.Base.TheVariants as base
use Rattle.kt_grammar.specs.Tree.{Term, Text, Null, Parenthesised, Element, Member, Pointed, Stepped, Prefixed, Converted, Operated, Chosen, Assigned}
use Rattle.kt_typing.specs.declared.fault.Fault.{Fault}
use Rattle.kt_typing.specs.declared.fault.Kind.TheVariants as kind
use Rattle.kt_typing.specs.Faults.{fault_at, unknown, bad_type, incomplete}
use Rattle.kt_typing.specs.Rows.{name, named, number, type_name, size_of, call}

-- two parts are faulty: the fault at the lesser place is told
abbrev pub two_faulty_parts : List (Term × Fault)
two_faulty_parts =
    -- zz + s; s + lk; zz + yy; zz - s
    (Operated binary.Add (named 1 (codes "zz")) (named 6 (codes "s")), unknown 1)
    ∷ (Operated binary.Add (named 1 (codes "s")) (named 5 (codes "lk")), bad_type 1)
    ∷ (Operated binary.Add (named 1 (codes "zz")) (named 6 (codes "yy")), unknown 1)
    ∷ (Operated binary.Subtract (named 1 (codes "zz")) (named 6 (codes "s")), unknown 1)
    -- lk * zz; zz / s; s % zz; zz < s
    ∷ (Operated binary.Multiply (named 1 (codes "lk")) (named 6 (codes "zz")), bad_type 1)
    ∷ (Operated binary.Divide (named 1 (codes "zz")) (named 6 (codes "s")), unknown 1)
    ∷ (Operated binary.Remainder (named 1 (codes "s")) (named 5 (codes "zz")), bad_type 1)
    ∷ (Operated binary.Less (named 1 (codes "zz")) (named 6 (codes "s")), unknown 1)
    -- s >= zz; lk == s; zz != s; lk && zz
    ∷ (Operated binary.GreaterEqual (named 1 (codes "s")) (named 6 (codes "zz")), bad_type 1)
    ∷ (Operated binary.Equal (named 1 (codes "lk")) (named 7 (codes "s")), bad_type 1)
    ∷ (Operated binary.NotEqual (named 1 (codes "zz")) (named 7 (codes "s")), unknown 1)
    ∷ (Operated binary.And (named 1 (codes "lk")) (named 7 (codes "zz")), bad_type 1)
    -- zz || s; zz = s; s = s; zz += s
    ∷ (Operated binary.Or (named 1 (codes "zz")) (named 7 (codes "s")), unknown 1)
    ∷ (Assigned assign.Assign (named 1 (codes "zz")) (named 6 (codes "s")), unknown 1)
    ∷ (Assigned assign.Assign (named 1 (codes "s")) (named 5 (codes "s")), bad_type 1)
    ∷ (Assigned assign.Add (named 1 (codes "zz")) (named 7 (codes "s")), unknown 1)
    -- lk -= zz; x = zz + s; q[s] = zz; zz[s]
    ∷ (Assigned assign.Subtract (named 1 (codes "lk")) (named 7 (codes "zz")), bad_type 1)
    ∷ (Assigned assign.Assign (named 1 (codes "x")) (Operated binary.Add (named 5 (codes "zz")) (named 10 (codes "s"))), unknown 5)
    ∷ (Assigned assign.Assign (Element (named 1 (codes "q")) (named 3 (codes "s"))) (named 8 (codes "zz")), bad_type 3)
    ∷ (Element (named 1 (codes "zz")) (named 4 (codes "s")), unknown 1)
    -- lk[zz]; g[zz] = s; s[0] = zz; n[0] = zz
    ∷ (Element (named 1 (codes "lk")) (named 4 (codes "zz")), bad_type 1)
    ∷ (Assigned assign.Assign (Element (named 1 (codes "g")) (named 3 (codes "zz"))) (named 9 (codes "s")), unknown 3)
    ∷ (Assigned assign.Assign (Element (named 1 (codes "s")) (number 3 0)) (named 8 (codes "zz")), bad_type 1)
    ∷ (Assigned assign.Assign (Element (named 1 (codes "n")) (number 3 0)) (named 8 (codes "zz")), bad_type 1)
    -- zz ? s : 1; 1 ? zz : s; s ? lk : zz; n ? lk : zz
    ∷ (Chosen (named 1 (codes "zz")) (named 6 (codes "s")) (number 10 1), unknown 1)
    ∷ (Chosen (number 1 1) (named 5 (codes "zz")) (named 10 (codes "s")), unknown 5)
    ∷ (Chosen (named 1 (codes "s")) (named 5 (codes "lk")) (named 10 (codes "zz")), bad_type 1)
    ∷ (Chosen (named 1 (codes "n")) (named 5 (codes "lk")) (named 10 (codes "zz")), bad_type 5)
    -- !s + zz; *s = zz; *n = zz; &zz + s
    ∷ (Operated binary.Add (Prefixed 1 prefix.Not (named 2 (codes "s"))) (named 6 (codes "zz")), bad_type 2)
    ∷ (Assigned assign.Assign (Prefixed 1 prefix.Dereference (named 2 (codes "s"))) (named 6 (codes "zz")), bad_type 2)
    ∷ (Assigned assign.Assign (Prefixed 1 prefix.Dereference (named 2 (codes "n"))) (named 6 (codes "zz")), bad_type 1)
    ∷ (Operated binary.Add (Prefixed 1 prefix.AddressOf (named 2 (codes "zz"))) (named 7 (codes "s")), unknown 2)
    -- &5 + zz; -(s) + zz; (s) = zz; (zz) = (s)
    ∷ (Operated binary.Add (Prefixed 1 prefix.AddressOf (number 2 5)) (named 6 (codes "zz")), bad_type 1)
    ∷ (Operated binary.Add (Prefixed 1 prefix.Negate (Parenthesised 2 (named 3 (codes "s")))) (named 8 (codes "zz")), bad_type 3)
    ∷ (Assigned assign.Assign (Parenthesised 1 (named 2 (codes "s"))) (named 7 (codes "zz")), bad_type 2)
    ∷ (Assigned assign.Assign (Parenthesised 1 (named 2 (codes "zz"))) (Parenthesised 8 (named 9 (codes "s"))), unknown 2)
    -- ++s + zz; ++5 + zz; s++ + zz; 5++ + zz
    ∷ (Operated binary.Add (Prefixed 1 prefix.Increment (named 3 (codes "s"))) (named 7 (codes "zz")), bad_type 3)
    ∷ (Operated binary.Add (Prefixed 1 prefix.Increment (number 3 5)) (named 7 (codes "zz")), bad_type 1)
    ∷ (Operated binary.Add (Stepped (named 1 (codes "s")) step.Increment) (named 7 (codes "zz")), bad_type 1)
    ∷ (Operated binary.Add (Stepped (number 1 5) step.Increment) (named 7 (codes "zz")), bad_type 1)
    -- s.w + zz; zz.v = s; n.v + zz; s.v.v = zz
    ∷ (Operated binary.Add (Member (named 1 (codes "s")) (name 3 (codes "w"))) (named 7 (codes "zz")), unknown 3)
    ∷ (Assigned assign.Assign (Member (named 1 (codes "zz")) (name 4 (codes "v"))) (named 8 (codes "s")), unknown 1)
    ∷ (Operated binary.Add (Member (named 1 (codes "n")) (name 3 (codes "v"))) (named 7 (codes "zz")), bad_type 1)
    ∷ (Assigned assign.Assign (Member (Member (named 1 (codes "s")) (name 3 (codes "v"))) (name 5 (codes "v"))) (named 9 (codes "zz")), bad_type 1)
    -- q->v + zz; zz->v = s; w->v = zz; w[0] == zz
    ∷ (Operated binary.Add (Pointed (named 1 (codes "q")) (name 4 (codes "v"))) (named 8 (codes "zz")), bad_type 1)
    ∷ (Assigned assign.Assign (Pointed (named 1 (codes "zz")) (name 5 (codes "v"))) (named 9 (codes "s")), unknown 1)
    ∷ (Assigned assign.Assign (Pointed (named 1 (codes "w")) (name 4 (codes "v"))) (named 8 (codes "zz")), incomplete 1)
    ∷ (Operated binary.Equal (Element (named 1 (codes "w")) (number 3 0)) (named 9 (codes "zz")), incomplete 1)
    -- (w + 1) == zz; (char)s + zz; (char)q + zz; (char)zz + s
    ∷ (Operated binary.Equal (Parenthesised 1 (Operated binary.Add (named 2 (codes "w")) (number 6 1))) (named 12 (codes "zz")), incomplete 2)
    ∷ (Operated binary.Add (Converted 1 (type_name base.Char 0) (named 7 (codes "s"))) (named 11 (codes "zz")), bad_type 7)
    ∷ (Operated binary.Add (Converted 1 (type_name base.Char 0) (named 7 (codes "q"))) (named 11 (codes "zz")), bad_type 1)
    ∷ (Operated binary.Add (Converted 1 (type_name base.Char 0) (named 7 (codes "zz"))) (named 12 (codes "s")), unknown 7)
    -- f + zz; zz + f; malloc + zz; NULL + 1 == zz
    ∷ (Operated binary.Add (named 1 (codes "f")) (named 5 (codes "zz")), bad_type 1)
    ∷ (Operated binary.Add (named 1 (codes "zz")) (named 6 (codes "f")), unknown 1)
    ∷ (Operated binary.Add (named 1 (codes "malloc")) (named 10 (codes "zz")), unknown 1)
    ∷ (Operated binary.Equal (Operated binary.Add (Null 1) (number 8 1)) (named 13 (codes "zz")), bad_type 1)
    -- f(s, zz); f(zz, s); f(f, zz); f(*n, zz)
    ∷ (call 1 (codes "f") (named 3 (codes "s") ∷ named 6 (codes "zz") ∷ []), bad_type 3)
    ∷ (call 1 (codes "f") (named 3 (codes "zz") ∷ named 7 (codes "s") ∷ []), unknown 3)
    ∷ (call 1 (codes "f") (named 3 (codes "f") ∷ named 6 (codes "zz") ∷ []), bad_type 3)
    ∷ (call 1 (codes "f") (Prefixed 3 prefix.Dereference (named 4 (codes "n")) ∷ named 7 (codes "zz") ∷ []), bad_type 3)
    -- f(zz, *n); f(n + s, zz); free(n) + zz; putchar(q) + zz
    ∷ (call 1 (codes "f") (named 3 (codes "zz") ∷ Prefixed 7 prefix.Dereference (named 8 (codes "n")) ∷ []), unknown 3)
    ∷ (call 1 (codes "f") (Operated binary.Add (named 3 (codes "n")) (named 7 (codes "s")) ∷ named 10 (codes "zz") ∷ []), bad_type 7)
    ∷ (Operated binary.Add (call 1 (codes "free") (named 6 (codes "n") ∷ [])) (named 11 (codes "zz")), bad_type 1)
    ∷ (Operated binary.Add (call 1 (codes "putchar") (named 9 (codes "q") ∷ [])) (named 14 (codes "zz")), bad_type 1)
    -- putchar(s) + zz; puts(n) + zz; printf("%d%d", s, zz); printf("%d%d", zz, s)
    ∷ (Operated binary.Add (call 1 (codes "putchar") (named 9 (codes "s") ∷ [])) (named 14 (codes "zz")), bad_type 9)
    ∷ (Operated binary.Add (call 1 (codes "puts") (named 6 (codes "n") ∷ [])) (named 11 (codes "zz")), bad_type 1)
    ∷ (call 1 (codes "printf") (Text 8 (codes "%d%d") ∷ named 16 (codes "s") ∷ named 19 (codes "zz") ∷ []), bad_type 16)
    ∷ (call 1 (codes "printf") (Text 8 (codes "%d%d") ∷ named 16 (codes "zz") ∷ named 20 (codes "s") ∷ []), unknown 16)
    -- printf("%q", zz, s); printf(zz, s); printf(s, zz); malloc(s * sizeof(struct u))
    ∷ (call 1 (codes "printf") (Text 8 (codes "%q") ∷ named 14 (codes "zz") ∷ named 18 (codes "s") ∷ []), unknown 14)
    ∷ (call 1 (codes "printf") (named 8 (codes "zz") ∷ named 12 (codes "s") ∷ []), unknown 8)
    ∷ (call 1 (codes "printf") (named 8 (codes "s") ∷ named 11 (codes "zz") ∷ []), bad_type 8)
    ∷ (call 1 (codes "malloc") (Operated binary.Multiply (named 8 (codes "s")) (size_of 12 (base.Struct (name 26 (codes "u")))) ∷ []), bad_type 8)
    -- malloc(zz * sizeof(struct u)); malloc(sizeof(struct u) * zz); malloc(q * sizeof(int)) + zz; sizeof(struct u) + zz
    ∷ (call 1 (codes "malloc") (Operated binary.Multiply (named 8 (codes "zz")) (size_of 13 (base.Struct (name 27 (codes "u")))) ∷ []), unknown 8)
    ∷ (call 1 (codes "malloc") (Operated binary.Multiply (size_of 8 (base.Struct (name 22 (codes "u")))) (named 27 (codes "zz")) ∷ []), incomplete 22)
    ∷ (Operated binary.Add (call 1 (codes "malloc") (Operated binary.Multiply (named 8 (codes "q")) (size_of 12 base.Int) ∷ [])) (named 27 (codes "zz")), bad_type 1)
    ∷ (Operated binary.Add (size_of 1 (base.Struct (name 15 (codes "u")))) (named 20 (codes "zz")), bad_type 1)
    -- zz + sizeof(int); calloc(s, sizeof(struct u)); calloc(zz, sizeof(struct u)); calloc(sizeof(int), zz)
    ∷ (Operated binary.Add (named 1 (codes "zz")) (size_of 6 base.Int), unknown 1)
    ∷ (call 1 (codes "calloc") (named 8 (codes "s") ∷ size_of 11 (base.Struct (name 25 (codes "u"))) ∷ []), bad_type 8)
    ∷ (call 1 (codes "calloc") (named 8 (codes "zz") ∷ size_of 12 (base.Struct (name 26 (codes "u"))) ∷ []), unknown 8)
    ∷ (call 1 (codes "calloc") (size_of 8 base.Int ∷ named 21 (codes "zz") ∷ []), bad_type 8)
    -- calloc(1, 2) + zz; pthread_mutex_lock(lk) + zz; pthread_mutex_lock(q) + zz; pthread_mutex_init(zz, s)
    ∷ (Operated binary.Add (call 1 (codes "calloc") (number 8 1 ∷ number 11 2 ∷ [])) (named 16 (codes "zz")), bad_type 1)
    ∷ (Operated binary.Add (call 1 (codes "pthread_mutex_lock") (named 20 (codes "lk") ∷ [])) (named 26 (codes "zz")), bad_type 20)
    ∷ (Operated binary.Add (call 1 (codes "pthread_mutex_lock") (named 20 (codes "q") ∷ [])) (named 25 (codes "zz")), bad_type 1)
    ∷ (call 1 (codes "pthread_mutex_init") (named 20 (codes "zz") ∷ named 24 (codes "s") ∷ []), unknown 20)
    -- pthread_mutex_init(s, zz); pthread_mutex_init(&lk, 1) + zz; ktthread_create(zz, s); ktthread_create(n, s)
    ∷ (call 1 (codes "pthread_mutex_init") (named 20 (codes "s") ∷ named 23 (codes "zz") ∷ []), bad_type 20)
    ∷ (Operated binary.Add (call 1 (codes "pthread_mutex_init") (Prefixed 20 prefix.AddressOf (named 21 (codes "lk")) ∷ number 25 1 ∷ [])) (named 30 (codes "zz")), bad_type 1)
    ∷ (call 1 (codes "ktthread_create") (named 17 (codes "zz") ∷ named 21 (codes "s") ∷ []), unknown 17)
    ∷ (call 1 (codes "ktthread_create") (named 17 (codes "n") ∷ named 20 (codes "s") ∷ []), fault_at kind.Entry 17)
    -- ktthread_join(q) + zz; kitsune_update(s) + zz; MIGRATE_LOCAL(zz + s); MIGRATE_LOCAL(n) + zz
    ∷ (Operated binary.Add (call 1 (codes "ktthread_join") (named 15 (codes "q") ∷ [])) (named 20 (codes "zz")), bad_type 1)
    ∷ (Operated binary.Add (call 1 (codes "kitsune_update") (named 16 (codes "s") ∷ [])) (named 21 (codes "zz")), bad_type 16)
    ∷ (call 1 (codes "MIGRATE_LOCAL") (Operated binary.Add (named 15 (codes "zz")) (named 20 (codes "s")) ∷ []), unknown 15)
    ∷ (Operated binary.Add (call 1 (codes "MIGRATE_LOCAL") (named 15 (codes "n") ∷ [])) (named 20 (codes "zz")), fault_at kind.Note 1)
    ∷ []

-- the own rule of an operator or of a call is broken, or would be: it is told where all parts have types, or where the count of
-- arguments or what is called is wrong
abbrev pub own_faults : List (Term × Fault)
own_faults =
    -- 5 = zz; q * zz; n[zz]; q ? zz : 1
    (Assigned assign.Assign (number 1 5) (named 5 (codes "zz")), unknown 5)
    ∷ (Operated binary.Multiply (named 1 (codes "q")) (named 5 (codes "zz")), unknown 5)
    ∷ (Element (named 1 (codes "n")) (named 3 (codes "zz")), unknown 3)
    ∷ (Chosen (named 1 (codes "q")) (named 5 (codes "zz")) (number 10 1), unknown 5)
    -- 1 ? q : zz; g = zz; n - zz; f(q, zz)
    ∷ (Chosen (number 1 1) (named 5 (codes "q")) (named 9 (codes "zz")), unknown 9)
    ∷ (Assigned assign.Assign (named 1 (codes "g")) (named 5 (codes "zz")), unknown 5)
    ∷ (Operated binary.Subtract (named 1 (codes "n")) (named 5 (codes "zz")), unknown 5)
    ∷ (call 1 (codes "f") (named 3 (codes "q") ∷ named 6 (codes "zz") ∷ []), unknown 6)
    -- f(n, zz); f(1, 1); q == 0; q < NULL
    ∷ (call 1 (codes "f") (named 3 (codes "n") ∷ named 6 (codes "zz") ∷ []), unknown 6)
    ∷ (call 1 (codes "f") (number 3 1 ∷ number 6 1 ∷ []), bad_type 1)
    ∷ (Operated binary.Equal (named 1 (codes "q")) (number 6 0), bad_type 1)
    ∷ (Operated binary.Less (named 1 (codes "q")) (Null 5), bad_type 1)
    -- 1 ? q : n; q * q; f(zz); f(s)
    ∷ (Chosen (number 1 1) (named 5 (codes "q")) (named 9 (codes "n")), bad_type 1)
    ∷ (Operated binary.Multiply (named 1 (codes "q")) (named 5 (codes "q")), bad_type 1)
    ∷ (call 1 (codes "f") (named 3 (codes "zz") ∷ []), bad_type 1)
    ∷ (call 1 (codes "f") (named 3 (codes "s") ∷ []), bad_type 1)
    -- f(1, 2, zz); zz(s); n(zz); free(zz, 1)
    ∷ (call 1 (codes "f") (number 3 1 ∷ number 6 2 ∷ named 9 (codes "zz") ∷ []), bad_type 1)
    ∷ (call 1 (codes "zz") (named 4 (codes "s") ∷ []), unknown 1)
    ∷ (call 1 (codes "n") (named 3 (codes "zz") ∷ []), bad_type 1)
    ∷ (call 1 (codes "free") (named 6 (codes "zz") ∷ number 10 1 ∷ []), bad_type 1)
    -- printf("%d", zz, 1); printf("%q", zz); printf("%q", n); printf(n, zz)
    ∷ (call 1 (codes "printf") (Text 8 (codes "%d") ∷ named 14 (codes "zz") ∷ number 18 1 ∷ []), bad_type 1)
    ∷ (call 1 (codes "printf") (Text 8 (codes "%q") ∷ named 14 (codes "zz") ∷ []), unknown 14)
    ∷ (call 1 (codes "printf") (Text 8 (codes "%q") ∷ named 14 (codes "n") ∷ []), bad_type 1)
    ∷ (call 1 (codes "printf") (named 8 (codes "n") ∷ named 11 (codes "zz") ∷ []), unknown 11)
    -- calloc(1, zz); pthread_mutex_init(zz, 1); ktthread_create(1, zz); ktthread_create(f)
    ∷ (call 1 (codes "calloc") (number 8 1 ∷ named 11 (codes "zz") ∷ []), unknown 11)
    ∷ (call 1 (codes "pthread_mutex_init") (named 20 (codes "zz") ∷ number 24 1 ∷ []), unknown 20)
    ∷ (call 1 (codes "ktthread_create") (number 17 1 ∷ named 20 (codes "zz") ∷ []), unknown 20)
    ∷ (call 1 (codes "ktthread_create") (named 17 (codes "f") ∷ []), bad_type 1)
    -- kitsune_update(zz); kitsune_update(s); kitsune_update(n); kitsune_is_updating(zz)
    ∷ (call 1 (codes "kitsune_update") (named 16 (codes "zz") ∷ []), unknown 16)
    ∷ (call 1 (codes "kitsune_update") (named 16 (codes "s") ∷ []), bad_type 16)
    ∷ (call 1 (codes "kitsune_update") (named 16 (codes "n") ∷ []), bad_type 1)
    ∷ (call 1 (codes "kitsune_is_updating") (named 21 (codes "zz") ∷ []), bad_type 1)
    -- MIGRATE_LOCAL(s)
    ∷ (call 1 (codes "MIGRATE_LOCAL") (named 15 (codes "s") ∷ []), fault_at kind.Note 1)
    ∷ []
