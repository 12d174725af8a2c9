-- Pairs of addresses and heap numbers: the number of an address, the address of a number, and both after one pair more.
use Rattle.std.proofs.Common.{◌≡◌, ◌≢◌, ◌⊎◌, ℕ, zero, suc, ◌<◌, ◌==◌, cond, List, [], ◌∷◌, ◌++◌, length, None, Some, refl, sym, ◌∙◌, ap, subst, arith, inl, inr}
use Rattle.std.specs.Prelude.{slice_index_or}
use Rattle.std.specs.List.{Contains}
use Rattle.std.proofs.lemmas.List.Elements.{Contains-push_cases}
use Rattle.kt_mem.specs.Memory.{Memory}
use Rattle.kt_heap.specs.Heap.{Paired, IsNew, AreOneToOne, IsPairing}
use Rattle.kt_mem.specs.Renaming.{Pairs, renamed}
use Rattle.kt_heap.specs.ByNumber.{address_paired}
use Rattle.kt_heap.proofs.Places.{by_test}

-- ---- elements

first_or_rest : {X : Type 0} (x z : X) (xs : List X) (k : ℕ) → k < length (x ∷ xs) → slice_index_or (x ∷ xs) k z ≡ z → (x ≡ z) ⊎ Contains xs z
first_or_rest x z xs zero l e = inl e
first_or_rest x z xs (suc k) l e = inr (k, omega arith, e)

none_in_empty : (a n : ℕ) → Paired [] a n → ⊥
none_in_empty a n h = let below = h.1 in omega arith

pub paired_first : (p : ℕ × ℕ) (ps : Pairs) → Paired (p ∷ ps) p.0 p.1
paired_first p ps = (0, omega arith, refl)

pub paired_rest : (p : ℕ × ℕ) (ps : Pairs) (a n : ℕ) → Paired ps a n → Paired (p ∷ ps) a n
paired_rest p ps a n h = let below = h.1 in (suc h.0, omega arith, h.2)

-- ---- the number of an address

number_paired : (ps : Pairs) (a n : ℕ) → Paired ps a n → Paired ps a (renamed ps a)
number_paired [] a n h = absurd (none_in_empty a n h)
number_paired (p ∷ ps) a n h =
    by_test (λ t. Paired (p ∷ ps) a (cond t p.1 (renamed ps a))) p.0 a (λ e. subst (λ (x : ℕ). Paired (p ∷ ps) x p.1) e (paired_first p ps)) (λ ne. elim (first_or_rest p (a, n) ps h.0 h.1 h.2) [ inl e ↦ absurd (ne (ap (λ (x : ℕ × ℕ). x.0) e)) | inr r ↦ paired_rest p ps a (renamed ps a) (number_paired ps a n r) ])

pub number_there : (ps : Pairs) (m : Memory) (a n : ℕ) → IsPairing ps m → Paired ps a n → renamed ps a ≡ n
number_there ps m a n kept p = kept.numbers a (renamed ps a) n (number_paired ps a n p) p

-- ---- the address of a number

-- what is found is paired
pub address_is_paired : (ps : Pairs) (n a : ℕ) → address_paired ps n ≡ Some a → Paired ps a n
address_is_paired [] n a h = let never : ⊥ = cc in absurd never
address_is_paired (p ∷ ps) n a h =
    by_test (λ t. cond t (Some p.0) (address_paired ps n) ≡ Some a → Paired (p ∷ ps) a n) p.1 n same (λ _ e. paired_rest p ps a n (address_is_paired ps n a e)) h
  where
    same : p.1 ≡ n → Some p.0 ≡ Some a → Paired (p ∷ ps) a n
    same e s =
        let first : p.0 ≡ a = cc in
        subst (λ (x : ℕ). Paired (p ∷ ps) x n) first (subst (λ (k : ℕ). Paired (p ∷ ps) p.0 k) e (paired_first p ps))

-- and what is paired is found
address_found : (ps : Pairs) (a n : ℕ) → Paired ps a n → (b : ℕ) × (address_paired ps n ≡ Some b)
address_found [] a n h = absurd (none_in_empty a n h)
address_found (p ∷ ps) a n h =
    by_test (λ t. (b : ℕ) × (cond t (Some p.0) (address_paired ps n) ≡ Some b)) p.1 n (λ _. (p.0, refl)) (λ ne. elim (first_or_rest p (a, n) ps h.0 h.1 h.2) [ inl e ↦ absurd (ne (ap (λ (x : ℕ × ℕ). x.1) e)) | inr r ↦ address_found ps a n r ])

pub address_there : (ps : Pairs) (m : Memory) (a n : ℕ) → IsPairing ps m → Paired ps a n → address_paired ps n ≡ Some a
address_there ps m a n kept p =
    let found = address_found ps a n p in
    found.1 ∙ ap Some (kept.addresses found.0 a n (address_is_paired ps n found.0 found.1) p)

-- ---- one pair more

-- the number of another address
pub number_pushed : (ps : Pairs) (a n b : ℕ) → b ≢ a → renamed (ps ++ (a, n) ∷ []) b ≡ renamed ps b
number_pushed [] a n b ne =
    by_test (λ t. cond t n b ≡ b) a b (λ e. absurd (ne (sym e))) (λ _. refl)
number_pushed (p ∷ ps) a n b ne = ap (cond (p.0 == b) p.1) (number_pushed ps a n b ne)

-- the address of a number: the one that it had, or the new one
pub address_kept : (ps : Pairs) (a n k b : ℕ) → address_paired ps k ≡ Some b → address_paired (ps ++ (a, n) ∷ []) k ≡ Some b
address_kept [] a n k b h = let never : ⊥ = cc in absurd never
address_kept (p ∷ ps) a n k b h =
    by_test (λ t. cond t (Some p.0) (address_paired ps k) ≡ Some b → cond t (Some p.0) (address_paired (ps ++ (a, n) ∷ []) k) ≡ Some b) p.1 k (λ _ e. e) (λ _ e. address_kept ps a n k b e) h

pub address_pushed : (ps : Pairs) (a n k : ℕ) → address_paired ps k ≡ None → address_paired (ps ++ (a, n) ∷ []) k ≡ cond (n == k) (Some a) None
address_pushed [] a n k h = refl
address_pushed (p ∷ ps) a n k h =
    by_test (λ t. cond t (Some p.0) (address_paired ps k) ≡ None → cond t (Some p.0) (address_paired (ps ++ (a, n) ∷ []) k) ≡ cond (n == k) (Some a) None) p.1 k (λ _ e. let never : ⊥ = cc in absurd never) (λ _ e. address_pushed ps a n k e) h

-- a new address and a new number stand nowhere else
pub once_pushed : (ps : Pairs) (a n : ℕ) → AreOneToOne ps → IsNew ps a → ((b : ℕ) → Paired ps b n → ⊥) → AreOneToOne (ps ++ (a, n) ∷ [])
once_pushed [] a n once new unpaired = (λ k p. none_in_empty a k p, λ b p. none_in_empty b n p, tt)
once_pushed (p ∷ ps) a n once new unpaired =
    (λ k q. elim (Contains-push_cases ps (a, n) (p.0, k) q) [ inl r ↦ once.0 k r | inr e ↦ new p.1 (subst (λ (x : ℕ). Paired (p ∷ ps) x p.1) (sym (ap (λ (x : ℕ × ℕ). x.0) e)) (paired_first p ps)) ], λ b q. elim (Contains-push_cases ps (a, n) (b, p.1) q) [ inl r ↦ once.1 b r | inr e ↦ unpaired p.0 (subst (λ (x : ℕ). Paired (p ∷ ps) p.0 x) (sym (ap (λ (x : ℕ × ℕ). x.1) e)) (paired_first p ps)) ], once_pushed ps a n once.2 (λ k r. new k (paired_rest p ps a k r)) (λ b r. unpaired b (paired_rest p ps b n r)))
