-- The versions of worked rows.
use Rattle.std.specs.Prelude.{true, false, [], ◌∷◌, codes}
use Rattle.kt_types.specs.declared.kinds.Ty.TheVariants as ty
use Rattle.kt_types.specs.declared.kinds.View.TheVariants as view
use Rattle.kt_tree.specs.Version.{Program}
use Rattle.xf_rules.specs.Fragments.{field, global, function, version}

-- struct S { int v; struct S *next; long l; char c; pthread_mutex_t m; int a[2]; struct T *t; }; struct T { int k; }; struct U; int g; long gl; char gc;
-- int *gp; struct S *ps; struct S st; pthread_mutex_t lk; int ar[3]; char *tx;
-- int f(int q) E_NOTELOCALS { int r; struct S *z; } int h(int q) {} int main(void) {}
abbrev pub wide : Program
wide = version
    (record {
      types = ty.Char ∷ ty.Int ∷ ty.Long ∷ ty.Mutex ∷ ty.Ptr 1 ∷ ty.Struct 0 ∷ ty.Ptr 5 ∷ ty.Ptr 6 ∷ ty.Ptr 2 ∷ ty.Ptr 0 ∷ ty.Ptr 3 ∷ ty.Array 1 2 ∷ ty.Struct 1 ∷ ty.Ptr 12 ∷ ty.Ptr 13 ∷ ty.Ptr 4 ∷ ty.Ptr 9 ∷ [];
      structs = codes "S" ∷ codes "T" ∷ codes "U" ∷ [];
      defined = record { number = 1; fields = field (codes "k") 1 view.One ∷ [] } ∷ record { number = 0; fields = field (codes "v") 1 view.One ∷ field (codes "next") 6 view.One ∷ field (codes "l") 2 view.One ∷ field (codes "c") 0 view.One ∷ field (codes "m") 3 view.One ∷ field (codes "a") 11 view.One ∷ field (codes "t") 13 view.One ∷ [] } ∷ [];
    })
    (global (codes "g") 1 1 false view.One ∷ global (codes "gl") 2 1 false view.One ∷ global (codes "gc") 0 1 false view.One ∷ global (codes "gp") 4 1 false view.One ∷ global (codes "ps") 6 1 false view.One ∷ global (codes "st") 5 1 false view.One ∷ global (codes "lk") 3 1 false view.One ∷ global (codes "ar") 1 3 true view.One ∷ global (codes "tx") 9 1 false view.Whole ∷ [])
    (function (codes "f") 1 true (field (codes "q") 1 view.One ∷ field (codes "r") 1 view.One ∷ field (codes "z") 6 view.One ∷ []) ∷ function (codes "h") 1 false (field (codes "q") 1 view.One ∷ []) ∷ function (codes "main") 0 false [] ∷ [])

-- struct node { int v; struct node *next; }; struct node *p; struct node *q; int main(void) {}
abbrev pub nodes : Program
nodes = version
    (record {
      types = ty.Char ∷ ty.Int ∷ ty.Long ∷ ty.Mutex ∷ ty.Ptr 1 ∷ ty.Struct 0 ∷ ty.Ptr 5 ∷ ty.Ptr 6 ∷ [];
      structs = codes "node" ∷ [];
      defined = record { number = 0; fields = field (codes "v") 1 view.One ∷ field (codes "next") 6 view.One ∷ [] } ∷ [];
    })
    (global (codes "p") 6 1 false view.One ∷ global (codes "q") 6 1 false view.One ∷ [])
    (function (codes "main") 0 false [] ∷ [])

-- struct node { int v; int age; struct node *next; }; struct node *p; struct node *q; int main(void) {}
abbrev pub aged_nodes : Program
aged_nodes = version
    (record {
      types = ty.Char ∷ ty.Int ∷ ty.Long ∷ ty.Mutex ∷ ty.Ptr 1 ∷ ty.Struct 0 ∷ ty.Ptr 5 ∷ ty.Ptr 6 ∷ [];
      structs = codes "node" ∷ [];
      defined = record { number = 0; fields = field (codes "v") 1 view.One ∷ field (codes "age") 1 view.One ∷ field (codes "next") 6 view.One ∷ [] } ∷ [];
    })
    (global (codes "p") 6 1 false view.One ∷ global (codes "q") 6 1 false view.One ∷ [])
    (function (codes "main") 0 false [] ∷ [])

-- long t; int main(void) {}
abbrev pub long_t : Program
long_t = version
    (record {
      types = ty.Char ∷ ty.Int ∷ ty.Long ∷ ty.Mutex ∷ ty.Ptr 2 ∷ [];
      structs = [];
      defined = [];
    })
    (global (codes "t") 2 1 false view.One ∷ [])
    (function (codes "main") 0 false [] ∷ [])

-- int t; int main(void) {}
abbrev pub int_t : Program
int_t = version
    (record {
      types = ty.Char ∷ ty.Int ∷ ty.Long ∷ ty.Mutex ∷ ty.Ptr 1 ∷ [];
      structs = [];
      defined = [];
    })
    (global (codes "t") 1 1 false view.One ∷ [])
    (function (codes "main") 0 false [] ∷ [])

-- int a; int main(void) {}
abbrev pub int_a : Program
int_a = version
    (record {
      types = ty.Char ∷ ty.Int ∷ ty.Long ∷ ty.Mutex ∷ ty.Ptr 1 ∷ [];
      structs = [];
      defined = [];
    })
    (global (codes "a") 1 1 false view.One ∷ [])
    (function (codes "main") 0 false [] ∷ [])

-- int b; int main(void) {}
abbrev pub int_b : Program
int_b = version
    (record {
      types = ty.Char ∷ ty.Int ∷ ty.Long ∷ ty.Mutex ∷ ty.Ptr 1 ∷ [];
      structs = [];
      defined = [];
    })
    (global (codes "b") 1 1 false view.One ∷ [])
    (function (codes "main") 0 false [] ∷ [])

-- int a[1]; int main(void) {}
abbrev pub array_a : Program
array_a = version
    (record {
      types = ty.Char ∷ ty.Int ∷ ty.Long ∷ ty.Mutex ∷ ty.Ptr 1 ∷ [];
      structs = [];
      defined = [];
    })
    (global (codes "a") 1 1 true view.One ∷ [])
    (function (codes "main") 0 false [] ∷ [])

-- int a[3]; int main(void) {}
abbrev pub longer_a : Program
longer_a = version
    (record {
      types = ty.Char ∷ ty.Int ∷ ty.Long ∷ ty.Mutex ∷ ty.Ptr 1 ∷ [];
      structs = [];
      defined = [];
    })
    (global (codes "a") 1 3 true view.One ∷ [])
    (function (codes "main") 0 false [] ∷ [])

-- int t; long u; int main(void) {}
abbrev pub int_t_and_u : Program
int_t_and_u = version
    (record {
      types = ty.Char ∷ ty.Int ∷ ty.Long ∷ ty.Mutex ∷ ty.Ptr 1 ∷ ty.Ptr 2 ∷ [];
      structs = [];
      defined = [];
    })
    (global (codes "t") 1 1 false view.One ∷ global (codes "u") 2 1 false view.One ∷ [])
    (function (codes "main") 0 false [] ∷ [])

-- struct A { int x; struct A *y; }; struct B; struct A *pa; struct B *pb; int main(void) {}
abbrev pub opened : Program
opened = version
    (record {
      types = ty.Char ∷ ty.Int ∷ ty.Long ∷ ty.Mutex ∷ ty.Ptr 1 ∷ ty.Struct 0 ∷ ty.Ptr 5 ∷ ty.Ptr 6 ∷ ty.Struct 1 ∷ ty.Ptr 8 ∷ ty.Ptr 9 ∷ [];
      structs = codes "A" ∷ codes "B" ∷ [];
      defined = record { number = 0; fields = field (codes "x") 1 view.One ∷ field (codes "y") 6 view.One ∷ [] } ∷ [];
    })
    (global (codes "pa") 6 1 false view.One ∷ global (codes "pb") 9 1 false view.One ∷ [])
    (function (codes "main") 0 false [] ∷ [])

-- struct A; struct B { long x; int z; }; struct A *pa; struct B *pb; int main(void) {}
abbrev pub closed : Program
closed = version
    (record {
      types = ty.Char ∷ ty.Int ∷ ty.Long ∷ ty.Mutex ∷ ty.Ptr 2 ∷ ty.Ptr 1 ∷ ty.Struct 0 ∷ ty.Ptr 6 ∷ ty.Ptr 7 ∷ ty.Struct 1 ∷ ty.Ptr 9 ∷ ty.Ptr 10 ∷ [];
      structs = codes "A" ∷ codes "B" ∷ [];
      defined = record { number = 1; fields = field (codes "x") 2 view.One ∷ field (codes "z") 1 view.One ∷ [] } ∷ [];
    })
    (global (codes "pa") 7 1 false view.One ∷ global (codes "pb") 10 1 false view.One ∷ [])
    (function (codes "main") 0 false [] ∷ [])

-- struct B { int x; struct A *a; }; struct A { int k; }; int n; int main(void) {}
abbrev pub unused : Program
unused = version
    (record {
      types = ty.Char ∷ ty.Int ∷ ty.Long ∷ ty.Mutex ∷ ty.Ptr 1 ∷ ty.Struct 1 ∷ ty.Ptr 5 ∷ ty.Ptr 6 ∷ [];
      structs = codes "B" ∷ codes "A" ∷ [];
      defined = record { number = 1; fields = field (codes "k") 1 view.One ∷ [] } ∷ record { number = 0; fields = field (codes "x") 1 view.One ∷ field (codes "a") 6 view.One ∷ [] } ∷ [];
    })
    (global (codes "n") 1 1 false view.One ∷ [])
    (function (codes "main") 0 false [] ∷ [])

-- int f(int k) E_NOTELOCALS { int i; } int main(void) {}
abbrev pub kept : Program
kept = version
    (record {
      types = ty.Char ∷ ty.Int ∷ ty.Long ∷ ty.Mutex ∷ [];
      structs = [];
      defined = [];
    })
    ([])
    (function (codes "f") 1 true (field (codes "k") 1 view.One ∷ field (codes "i") 1 view.One ∷ []) ∷ function (codes "main") 0 false [] ∷ [])

-- int main(void) {} int f(int k) E_NOTELOCALS { long i; int j; char n; int o; }
abbrev pub kept_longer : Program
kept_longer = version
    (record {
      types = ty.Char ∷ ty.Int ∷ ty.Long ∷ ty.Mutex ∷ [];
      structs = [];
      defined = [];
    })
    ([])
    (function (codes "main") 0 false [] ∷ function (codes "f") 1 true (field (codes "k") 1 view.One ∷ field (codes "i") 2 view.One ∷ field (codes "j") 1 view.One ∷ field (codes "n") 0 view.One ∷ field (codes "o") 1 view.One ∷ []) ∷ [])
