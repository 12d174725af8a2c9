-- The law of renaming.
use Rattle.std.specs.Prelude.{◌≡◌, ℕ, suc, ◌≤◌}
use Rattle.std.proofs.Common.{arith, sym, ap, ◌∙◌}
use Rattle.kt_mem.specs.declared.steps.Reply.{Reply}
use Rattle.kt_meaning.specs.Steps.{after_reply}
use Rattle.kt_code.specs.Code.{Code}
use Rattle.kt_code.specs.Machine.{step}
use Rattle.kt_code.specs.Settling.{settle, head_of}
use Rattle.kt_code.specs.declared.private.Private.{Private}
use Rattle.kt_mem.specs.Renaming.{Pairs, renamed}
use Rattle.kt_exec.specs.Renaming.{AreOneToOne, IsOld, PrivateIn, ReplyIn, HeadIn, rename_head, rename_private, rename_reply}
use Rattle.kt_exec.proofs.RenamedNames.{bound, spread, spread-keeps, spread-old, spread-same, spread-tells, private-only, head-only, private-in, reply-in, private-tells, head-tells}
use Rattle.kt_exec.proofs.RenamedOperations.{Keeps}
use Rattle.kt_exec.proofs.RenamedSteps.{settle-renamed, head-renamed, reply-renamed}

-- a renaming of all names, by so much
keeps : (ps : Pairs) → AreOneToOne ps → (n : ℕ) → bound ps ≤ n → Keeps (spread ps n)
keeps ps h n low = spread-keeps ps n h low

settled-by : (ps : Pairs) (n : ℕ) → Keeps (spread ps n) → (c : Code) (p : Private) → PrivateIn (IsOld ps) p →
    settle c (rename_private (renamed ps) p) ≡ rename_private (spread ps n) (settle c p)
settled-by ps n k c p old =
    ap (settle c) (private-in (IsOld ps) (renamed ps) (spread ps n) (spread-old ps n) p old) ∙ settle-renamed (spread ps n) k c p

-- what the renaming by n and that by n + 1 lead to alike
same-settled : (ps : Pairs) (n : ℕ) → Keeps (spread ps n) → Keeps (spread ps (suc n)) → (c : Code) (p : Private) → PrivateIn (IsOld ps) p →
    rename_private (spread ps n) (settle c p) ≡ rename_private (renamed ps) (settle c p)
same-settled ps n k l c p old =
    private-only (spread ps n) (spread ps (suc n)) (renamed ps) (spread-same ps n) (settle c p)
    (sym (settled-by ps n k c p old) ∙ settled-by ps (suc n) l c p old)

settled-with : (ps : Pairs) (n : ℕ) → Keeps (spread ps n) → Keeps (spread ps (suc n)) → (c : Code) (p : Private) → PrivateIn (IsOld ps) p →
    settle c (rename_private (renamed ps) p) ≡ rename_private (renamed ps) (settle c p)
settled-with ps n k l c p old = settled-by ps n k c p old ∙ same-settled ps n k l c p old

other-settled : (ps : Pairs) (n : ℕ) → Keeps (spread ps n) → Keeps (spread ps (suc n)) → (c : Code) (p : Private) → PrivateIn (IsOld ps) p →
    rename_private (spread ps (suc n)) (settle c p) ≡ rename_private (renamed ps) (settle c p)
other-settled ps n k l c p old = sym (settled-by ps (suc n) l c p old) ∙ settled-with ps n k l c p old

-- ---- the head

head-by : (ps : Pairs) (n : ℕ) → Keeps (spread ps n) → (c : Code) (q : Private) →
    rename_private (spread ps n) q ≡ rename_private (renamed ps) q →
    head_of (step c (rename_private (renamed ps) q)) ≡ rename_head (spread ps n) (head_of (step c q))
head-by ps n k c q e = ap (λ y. head_of (step c y)) (sym e) ∙ head-renamed (spread ps n) k c q

head-with : (ps : Pairs) (n : ℕ) → Keeps (spread ps n) → Keeps (spread ps (suc n)) → (c : Code) (q : Private) →
    rename_private (spread ps n) q ≡ rename_private (renamed ps) q → rename_private (spread ps (suc n)) q ≡ rename_private (renamed ps) q →
    head_of (step c (rename_private (renamed ps) q)) ≡ rename_head (renamed ps) (head_of (step c q))
head-with ps n k l c q e f =
    head-by ps n k c q e
    ∙ head-only (spread ps n) (spread ps (suc n)) (renamed ps) (spread-same ps n) (head_of (step c q))
    (sym (head-by ps n k c q e) ∙ head-by ps (suc n) l c q f)

-- ---- the reply

reply-by : (ps : Pairs) (n : ℕ) → Keeps (spread ps n) → (c : Code) (q : Private) (r : Reply) → ReplyIn (IsOld ps) r →
    rename_private (spread ps n) q ≡ rename_private (renamed ps) q →
    after_reply (rename_private (renamed ps) q) (step c (rename_private (renamed ps) q)) (rename_reply (renamed ps) r)
    ≡ rename_private (spread ps n) (after_reply q (step c q) r)
reply-by ps n k c q r old e =
    ap (λ y. after_reply y (step c y) (rename_reply (renamed ps) r)) (sym e)
    ∙ ap (λ t. after_reply (rename_private (spread ps n) q) (step c (rename_private (spread ps n) q)) t)
    (reply-in (IsOld ps) (renamed ps) (spread ps n) (spread-old ps n) r old)
    ∙ reply-renamed (spread ps n) k c q r

reply-with : (ps : Pairs) (n : ℕ) → Keeps (spread ps n) → Keeps (spread ps (suc n)) → (c : Code) (q : Private) (r : Reply) → ReplyIn (IsOld ps) r →
    rename_private (spread ps n) q ≡ rename_private (renamed ps) q → rename_private (spread ps (suc n)) q ≡ rename_private (renamed ps) q →
    after_reply (rename_private (renamed ps) q) (step c (rename_private (renamed ps) q)) (rename_reply (renamed ps) r)
    ≡ rename_private (renamed ps) (after_reply q (step c q) r)
reply-with ps n k l c q r old e f =
    reply-by ps n k c q r old e
    ∙ private-only (spread ps n) (spread ps (suc n)) (renamed ps) (spread-same ps n) (after_reply q (step c q) r)
    (sym (reply-by ps n k c q r old e) ∙ reply-by ps (suc n) l c q r old f)

-- ---- the law

low : (ps : Pairs) → bound ps ≤ bound ps
low ps = omega arith

lower : (ps : Pairs) → bound ps ≤ suc (bound ps)
lower ps = omega arith

pub renamed-settles : (ps : Pairs) → AreOneToOne ps → (c : Code) (p : Private) → PrivateIn (IsOld ps) p →
    settle c (rename_private (renamed ps) p) ≡ rename_private (renamed ps) (settle c p)
renamed-settles ps h c p old = settled-with ps (bound ps) (keeps ps h (bound ps) (low ps)) (keeps ps h (suc (bound ps)) (lower ps)) c p old

pub renamed-head : (ps : Pairs) → AreOneToOne ps → (c : Code) (p : Private) → PrivateIn (IsOld ps) p →
    head_of (step c (rename_private (renamed ps) (settle c p))) ≡ rename_head (renamed ps) (head_of (step c (settle c p)))
renamed-head ps h c p old =
    let k = keeps ps h (bound ps) (low ps) in
    let l = keeps ps h (suc (bound ps)) (lower ps) in
    head-with ps (bound ps) k l c (settle c p) (same-settled ps (bound ps) k l c p old) (other-settled ps (bound ps) k l c p old)

pub renamed-reply : (ps : Pairs) → AreOneToOne ps → (c : Code) (p : Private) (r : Reply) → PrivateIn (IsOld ps) p → ReplyIn (IsOld ps) r →
    after_reply (rename_private (renamed ps) (settle c p)) (step c (rename_private (renamed ps) (settle c p))) (rename_reply (renamed ps) r)
    ≡ rename_private (renamed ps) (after_reply (settle c p) (step c (settle c p)) r)
renamed-reply ps h c p r old told =
    let k = keeps ps h (bound ps) (low ps) in
    let l = keeps ps h (suc (bound ps)) (lower ps) in
    reply-with ps (bound ps) k l c (settle c p) r told (same-settled ps (bound ps) k l c p old) (other-settled ps (bound ps) k l c p old)

-- ---- no other names

module _ (ps : Pairs) (h : AreOneToOne ps) (c : Code) (p : Private) (old : PrivateIn (IsOld ps) p) where
  abbrev k : Keeps (spread ps (bound ps))
  k = keeps ps h (bound ps) (low ps)

  abbrev l : Keeps (spread ps (suc (bound ps)))
  l = keeps ps h (suc (bound ps)) (lower ps)

  -- both renamings do the same to the settled thread
  settled-alike : rename_private (spread ps (bound ps)) (settle c p) ≡ rename_private (spread ps (suc (bound ps))) (settle c p)
  settled-alike = same-settled ps (bound ps) k l c p old ∙ sym (other-settled ps (bound ps) k l c p old)

  pub settles-among : PrivateIn (IsOld ps) (settle c p)
  settles-among =
      private-tells (IsOld ps) (spread ps (bound ps)) (spread ps (suc (bound ps))) (spread-tells ps (bound ps)) (settle c p) settled-alike

  pub stands-among : HeadIn (IsOld ps) (head_of (step c (settle c p)))
  stands-among =
      head-tells (IsOld ps) (spread ps (bound ps)) (spread ps (suc (bound ps))) (spread-tells ps (bound ps)) (head_of (step c (settle c p)))
      (sym (head-by ps (bound ps) k c (settle c p) (same-settled ps (bound ps) k l c p old))
      ∙ head-by ps (suc (bound ps)) l c (settle c p) (other-settled ps (bound ps) k l c p old))

  pub replies-among : (r : Reply) → ReplyIn (IsOld ps) r → PrivateIn (IsOld ps) (after_reply (settle c p) (step c (settle c p)) r)
  replies-among r told =
      private-tells (IsOld ps) (spread ps (bound ps)) (spread ps (suc (bound ps))) (spread-tells ps (bound ps))
      (after_reply (settle c p) (step c (settle c p)) r)
      (sym (reply-by ps (bound ps) k c (settle c p) r told (same-settled ps (bound ps) k l c p old))
      ∙ reply-by ps (suc (bound ps)) l c (settle c p) r told (other-settled ps (bound ps) k l c p old))
