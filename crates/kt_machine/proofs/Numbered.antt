-- A thread by heap number does what the thread does by address.
use Rattle.std.specs.Prelude.{◌≡◌, ℕ, Option, None, Some, refl}
use Rattle.std.proofs.Common.{ap, subst, ◌∙◌}
use Rattle.kt_mem.specs.declared.steps.Reply.{Reply}
use Rattle.kt_mem.specs.declared.steps.Trap.TheVariants as trap
use Rattle.kt_meaning.specs.Steps.{after_reply}
use Rattle.kt_code.specs.Machine.{step}
use Rattle.kt_code.specs.Settling.{head_of, settle}
use Rattle.kt_code.specs.declared.private.Head.{Head}
use Rattle.kt_code.specs.declared.private.Head.TheVariants as head
use Rattle.kt_code.specs.declared.private.Private.{Private}
use Rattle.kt_code.proofs.CodeSettling.{settle-rests}
use Rattle.kt_heap.specs.Heap as heap
use Rattle.kt_mem.specs.Renaming.{Pairs, renamed}
use Rattle.kt_exec.specs.Renaming.{HeadIn, IsOld, PrivateIn, ReplyIn, rename_head, rename_private, rename_reply}
use Rattle.kt_exec.proofs.Renamed.{renamed-settles, renamed-head, renamed-reply, settles-among, stands-among, replies-among}
use Rattle.kt_exec.proofs.Settled.{head_of-IsHead}
use Rattle.kt_pair.specs.Pair.{Pair}
use Rattle.kt_machine.specs.ByNumber.{head_by, private_by, reply_by}
use Rattle.kt_machine.specs.Engine.{code_step}
use Rattle.kt_machine.proofs.Names.{one-to-one}

head-by : (ps : Pairs) (h : Head) → rename_head (renamed ps) (Some h) ≡ Some (head_by ps h)
head-by ps (head.Act a) = refl
head-by ps (head.Trap t) = refl

module _ (ps : Pairs) (once : heap.AreOneToOne ps) where
  module _ (c : Pair) (x : Private) (names : PrivateIn (IsOld ps) x) where
    pub settles-by : settle c.code (private_by ps x) ≡ private_by ps (settle c.code x)
    settles-by =
        renamed-settles ps (one-to-one ps once) c.code x names

    pub names-settled : PrivateIn (IsOld ps) (settle c.code x)
    names-settled = settles-among ps (one-to-one ps once) c.code x names

    module _ (h : Head) (stands : head_of (step c.code x) ≡ Some h) where
      rests : settle c.code x ≡ x
      rests = settle-rests c.code x (head_of-IsHead (step c.code x) h stands)

      stands-in : head_of (step c.code (private_by ps x)) ≡ Some (head_by ps h)
      stands-in =
          subst (λ (y : Private). head_of (step c.code (private_by ps y)) ≡ rename_head (renamed ps) (head_of (step c.code y))) rests
          (renamed-head ps (one-to-one ps once) c.code x names)
          ∙ ap (rename_head (renamed ps)) stands ∙ head-by ps h

      names-in : HeadIn (IsOld ps) (Some h)
      names-in =
          subst (λ (o : Option Head). HeadIn (IsOld ps) o)
          (ap (λ (y : Private). head_of (step c.code y)) rests ∙ stands) (stands-among ps (one-to-one ps once) c.code x names)

      module _ (r : Reply) (told : ReplyIn (IsOld ps) r) where
        names-replied : PrivateIn (IsOld ps) (after_reply x (step c.code x) r)
        names-replied =
            subst (λ (y : Private). PrivateIn (IsOld ps) (after_reply y (step c.code y) r)) rests
            (replies-among ps (one-to-one ps once) c.code x names r told)

        pub names-after : PrivateIn (IsOld ps) (settle c.code (after_reply x (step c.code x) r))
        names-after = settles-among ps (one-to-one ps once) c.code (after_reply x (step c.code x) r) names-replied

        replied-by : after_reply (private_by ps x) (step c.code (private_by ps x)) (reply_by ps r) ≡ private_by ps (after_reply x (step c.code x) r)
        replied-by =
            subst (λ (y : Private). after_reply (private_by ps y) (step c.code (private_by ps y)) (reply_by ps r)
            ≡ private_by ps (after_reply y (step c.code y) r)) rests
            (renamed-reply ps (one-to-one ps once) c.code x r names told)

        -- the thread goes on after the reply, and settles
        pub goes-on-by : settle c.code (after_reply (private_by ps x) (step c.code (private_by ps x)) (reply_by ps r))
            ≡ private_by ps (settle c.code (after_reply x (step c.code x) r))
        goes-on-by =
            ap (settle c.code) replied-by
            ∙ renamed-settles ps (one-to-one ps once) c.code (after_reply x (step c.code x) r) names-replied

  -- the thread by heap number stands at the same act by heap number
  pub stands-by : (o : Option Pair) (x : Private) (h : Head) → PrivateIn (IsOld ps) x → head_of (code_step o x) ≡ Some h →
      head_of (code_step o (private_by ps x)) ≡ Some (head_by ps h)
  stands-by None x h names stands = let is : head.Trap trap.Uninit ≡ h = cc in ap (λ (h : Head). Some (head_by ps h)) is
  stands-by (Some c) x h names stands = stands-in c x names h stands

  -- and each name in the act was given out
  pub names-of : (o : Option Pair) (x : Private) (h : Head) → PrivateIn (IsOld ps) x → head_of (code_step o x) ≡ Some h → HeadIn (IsOld ps) (Some h)
  names-of None x h names stands = subst (λ (o : Option Head). HeadIn (IsOld ps) o) stands tt
  names-of (Some c) x h names stands = names-in c x names h stands
