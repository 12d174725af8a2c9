-- What machines have in common, as worlds.
use Rattle.std.specs.Prelude.{◌≡◌, ◌⊎◌, true, false, List, [], ◌∷◌, Option, Some, Result, Ok, Err, OnOk, slice_get, refl}
use Rattle.std.proofs.Common.{sym, ap, subst, ◌∙◌, inl, inr}
use Rattle.std.proofs.lemmas.Option.{same_Some}
use Rattle.kt_mem.specs.declared.steps.Act.{Act}
use Rattle.kt_mem.specs.declared.steps.Act.TheVariants as act
use Rattle.kt_mem.specs.declared.memory.Value.{Value}
use Rattle.kt_mem.specs.declared.steps.Reply.{Reply}
use Rattle.kt_mem.specs.declared.steps.Reply.TheVariants.{Done, Got, Trapped}
use Rattle.kt_meaning.specs.Steps.{Step, Quiet, Acts, Traps, Ends, after_reply}
use Rattle.kt_code.specs.Agreement.{IsReplyTo}
use Rattle.kt_code.specs.Code.{Code}
use Rattle.kt_code.specs.Machine.{step}
use Rattle.kt_code.specs.Settling.{Fits, IsAct, head_of, settle}
use Rattle.kt_code.specs.declared.private.Head.{Head}
use Rattle.kt_code.specs.declared.private.Head.TheVariants as head
use Rattle.kt_code.specs.declared.private.Private.{Private}
use Rattle.kt_heap.specs.Heap as heap
use Rattle.kt_mem.specs.Renaming.{Pairs, renamed}
use Rattle.kt_exec.specs.Renaming.{ActIn, HeadIn, IsOld, PrivateIn, ReplyIn, rename_act}
use Rattle.kt_pair.specs.Pair.{Pair}
use Rattle.kt_lone.specs.Turn.{answered, has_ended}
use Rattle.kt_lone.specs.declared.mark.Closed.TheVariants as closed
use Rattle.kt_lone.specs.declared.mark.Mark.TheVariants.{Close}
use Rattle.kt_lone.specs.declared.mark.Phase.TheVariants.{Run}
use Rattle.kt_lone.specs.Update.{let_go, marked, refused}
use Rattle.kt_lone.specs.World.{Live, Shared, Thread, World}
use Rattle.kt_machine.specs.declared.machine.Machine.{Machine}
use Rattle.kt_machine.specs.declared.machine.Standing as declared
use Rattle.kt_machine.specs.declared.machine.Standing.TheVariants as standing
use Rattle.kt_machine.specs.Acts.{KeepsThread, MayReply, left_at, own_step, step_of, waits_at}
use Rattle.kt_machine.specs.ByNumber.{head_by, private_by, reply_by}
use Rattle.kt_machine.specs.Engine.{code_engine, code_settle, code_step, no_frames, pairs_of, standing_of, thread_of, without_ended, world_of, left_to, IsSettled, StandsAt}
use Rattle.kt_machine.specs.Outside.{Outside, pairs_in, shown}
use Rattle.kt_machine.specs.Shared as machine
use Rattle.kt_machine.specs.Shared.{shared_of}
use Rattle.kt_machine.proofs.ByAddress.{waits-by}
use Rattle.kt_machine.proofs.Heads.{IsStepAt, stands-at}
use Rattle.kt_machine.proofs.Numbered.{goes-on-by, names-after, names-of, stands-by}

live-parked : standing.Live ≡ standing.Parked → ⊥
live-parked e = cc

live-ended : standing.Live ≡ standing.Ended → ⊥
live-ended e = cc

parked-ended : standing.Parked ≡ standing.Ended → ⊥
parked-ended e = cc

true≢false : true ≡ false → ⊥
true≢false e = cc

-- a reply that is no trap
abbrev pub IsAnswer : Reply → Type 0
IsAnswer Done = Unit {0}
IsAnswer (Got v) = Unit {0}
IsAnswer (Trapped t) = ⊥

pub is-answer : (r : Reply) → (r ≡ Done) ⊎ ((v : Value) × (r ≡ Got v)) → IsAnswer r
is-answer r (inl e) = subst IsAnswer (sym e) tt
is-answer r (inr e) = subst IsAnswer (sym e.1) tt

answers : (s : Step Private) (r : Reply) → IsAnswer r → MayReply s r → IsReplyTo s r
answers s Done free h = h
answers s (Got v) free h = h
answers s (Trapped t) free h = absurd free

acts-if : (s : Step Private) (r : Reply) → IsReplyTo s r → IsAct s
acts-if (Acts a go) r h = tt
acts-if (Quiet x) r h = absurd h
acts-if (Traps t) r h = absurd h
acts-if (Ends a) r h = absurd h

-- the thread of a machine, of its parts
abbrev pub thread_with : Outside → Private → declared.Standing → Thread Private
thread_with o x s = record { state = private_by (pairs_in o) x; standing = standing_of s }

abbrev pub alone : Shared → Thread Private → World Private
alone s th = record { shared = s; threads = th ∷ [] }

module _ (m n : Machine) where
  pub thread-kept : KeepsThread m n → thread_of n ≡ thread_of m
  thread-kept k =
      ap (λ (o : Outside). thread_with o n.private n.standing) k.outside
      ∙ ap (λ (x : Private). thread_with m.shared.outside x n.standing) k.private
      ∙ ap (λ (s : declared.Standing). thread_with m.shared.outside m.private s) k.standing

  -- the thread stays, and this is shared
  pub world-kept : (s : Shared) → KeepsThread m n → shared_of n.shared ≡ s → world_of n ≡ record { shared = s; threads = thread_of m ∷ [] }
  world-kept s k e =
      ap (λ (s : Shared). record { shared = s; threads = thread_of n ∷ [] }) e
      ∙ ap (λ (th : Thread Private). record { shared = s; threads = th ∷ [] }) (thread-kept k)

-- this is shared, and the thread stays
pub world-shared : (m : Machine) (s : machine.Shared) (w : Shared) → s.outside ≡ m.shared.outside → shared_of s ≡ w →
    world_of (record m { shared = s }) ≡ record { shared = w; threads = thread_of m ∷ [] }
world-shared m s w outside e =
    ap (λ (x : Shared). record { shared = x; threads = thread_of (record m { shared = s }) ∷ [] }) e
    ∙ ap (λ (o : Outside). record { shared = w; threads = thread_with o m.private m.standing ∷ [] }) outside

-- nothing is kept of a thread that has ended
module _ (codes : List Pair) where
  left-of : (s : declared.Standing) (x : Private) → (s ≡ standing.Ended → x ≡ no_frames x.version x.mode) → (o : Outside) →
      left_to (standing_of s) (private_by (pairs_in o) x) ≡ private_by (pairs_in o) x
  left-of standing.Live x ended o = refl
  left-of standing.Parked x ended o = refl
  left-of standing.Ended x ended o = sym (ap (λ (z : Private). private_by (pairs_in o) z) (ended refl))

  pub settled-without : (m : Machine) → IsSettled codes m → without_ended (world_of m) ≡ world_of m
  settled-without m h =
      ap (λ (x : Private). record { shared = shared_of m.shared; threads = record { state = x; standing = standing_of m.standing } ∷ [] })
      (left-of m.standing m.private h.ended m.shared.outside)

  pub is-without : (m : Machine) (w : World Private) → IsSettled codes m → world_of m ≡ w → world_of m ≡ without_ended w
  is-without m w h e = sym (settled-without m h) ∙ ap without_ended e

  -- what a thread that lives stands at
  pub settled-live : (n : Machine) (c : Pair) → n.standing ≡ standing.Live → slice_get codes n.shared.version ≡ Some c → head_of (step c.code n.private) ≡ Some n.head →
      Fits c.code n.private → PrivateIn (IsOld (pairs_of n)) n.private → IsSettled codes n
  settled-live n c live at head fits names = record {
    stands = λ e. subst (λ (o : Option Pair). StandsAt o n.private n.head) (sym at)
        (record { head = head; fits = λ p is. subst (λ (q : Pair). Fits q.code n.private) (same_Some c p is) fits });
    parked = λ e. absurd (live-parked (sym live ∙ e));
    names = names;
    ended = λ e. absurd (live-ended (sym live ∙ e));
  }

  module _ (m : Machine) (once : heap.AreOneToOne (pairs_of m)) (h : IsSettled codes m) (on : has_ended (standing_of m.standing) ≡ false) where
    abbrev ps : Pairs
    ps = pairs_of m

    pub head-stands : head_of (step_of codes m) ≡ Some (head_by ps m.head)
    head-stands = stands-by ps once (slice_get codes m.shared.version) m.private m.head h.names (h.stands on).head

    pub stands-numbered : IsStepAt (head_by ps m.head) (step_of codes m)
    stands-numbered = stands-at (slice_get codes m.shared.version) (private_by ps m.private) (head_by ps m.head) head-stands

    pub head-names : HeadIn (IsOld ps) (Some m.head)
    head-names = names-of ps once (slice_get codes m.shared.version) m.private m.head h.names (h.stands on).head

    module _ (c : Pair) (at : slice_get codes m.shared.version ≡ Some c) (r : Reply) (told : ReplyIn (IsOld ps) r) where
      own-head : head_of (step c.code m.private) ≡ Some m.head
      own-head = subst (λ (o : Option Pair). head_of (code_step o m.private) ≡ Some m.head) at (h.stands on).head

      -- the thread after a reply, by heap number
      pub replied-state : (x : Private) → x ≡ settle c.code (after_reply m.private (step c.code m.private) r) →
          private_by ps x ≡ code_settle (slice_get codes m.shared.version)
          (after_reply (private_by ps m.private) (code_step (slice_get codes m.shared.version) (private_by ps m.private)) (reply_by ps r))
      replied-state x is =
          ap (λ (y : Private). private_by ps y) is
          ∙ sym (goes-on-by ps once c m.private h.names m.head own-head r told)
          ∙ sym (ap (λ (o : Option Pair). code_settle o (after_reply (private_by ps m.private) (code_step o (private_by ps m.private)) (reply_by ps r))) at)

      pub replied-names : (x : Private) → x ≡ settle c.code (after_reply m.private (step c.code m.private) r) → PrivateIn (IsOld ps) x
      replied-names x is =
          subst (λ (y : Private). PrivateIn (IsOld ps) y) (sym is) (names-after ps once c m.private h.names m.head own-head r told)

  -- the machine has gone on after a reply
  module _ (m : Machine) (once : heap.AreOneToOne (pairs_of m)) (h : IsSettled codes m) (on : has_ended (standing_of m.standing) ≡ false)
      (c : Pair) (at : slice_get codes m.shared.version ≡ Some c) (r : Reply) (told : ReplyIn (IsOld (pairs_of m)) r) where
    pub gone-live : (n : Machine) (q : Code) → q ≡ c.code → n.standing ≡ standing.Live → n.shared.version ≡ m.shared.version → n.shared.outside ≡ m.shared.outside →
        n.private ≡ settle c.code (after_reply m.private (step c.code m.private) r) → head_of (step q n.private) ≡ Some n.head → Fits q n.private → IsSettled codes n
    gone-live n q same live version outside state head fits =
        settled-live n c live (ap (slice_get codes) version ∙ at) (subst (λ (q : Code). head_of (step q n.private) ≡ Some n.head) same head)
        (subst (λ (q : Code). Fits q n.private) same fits)
        (subst (λ (o : Outside). PrivateIn (IsOld (pairs_in o)) n.private) (sym outside) (replied-names m once h on c at r told n.private state))

    pub settled-gone : {A E : Type 0} (n : Machine) (result : Result A E) (q : Code) → q ≡ c.code → n.standing ≡ standing.Live → n.shared ≡ m.shared →
        OnOk result (n.private ≡ settle c.code (after_reply m.private (step c.code m.private) r)) → OnOk result (head_of (step q n.private) ≡ Some n.head) →
        OnOk result (Fits q n.private) → OnOk result (IsSettled codes n)
    settled-gone n (Ok u) q same live shared state head fits =
        gone-live n q same live (ap (λ (s : machine.Shared). s.version) shared) (ap (λ (s : machine.Shared). s.outside) shared) state head fits
    settled-gone n (Err e) q same live shared state head fits = tt

  -- this is shared, in the same version and with the same heap
  pub settled-shared : (m : Machine) (s : machine.Shared) → s.version ≡ m.shared.version → s.outside ≡ m.shared.outside → IsSettled codes m →
      IsSettled codes (record m { shared = s })
  settled-shared m s version outside h = record {
    stands = λ e. subst (λ v. StandsAt (slice_get codes v) m.private m.head) (sym version) (h.stands e);
    parked = h.parked;
    names = subst (λ (o : Outside). PrivateIn (IsOld (pairs_in o)) m.private) (sym outside) h.names;
    ended = h.ended;
  }

  -- what is asked before the thread goes on
  module _ (m : Machine) (h : IsSettled codes m) (on : has_ended (standing_of m.standing) ≡ false) (c : Pair) (at : slice_get codes m.shared.version ≡ Some c) where
    own-fits : Fits c.code m.private
    own-fits = (h.stands on).fits c at

    module _ (r : Reply) (free : IsAnswer r) (may : MayReply (own_step codes m) r) (q : Code) (same : q ≡ c.code) where
      told : IsReplyTo (step c.code m.private) r
      told = subst (λ (o : Option Pair). IsReplyTo (code_step o m.private) r) at (answers (own_step codes m) r free may)

      pub goes-act : IsAct (step q m.private)
      goes-act = subst (λ (q : Code). IsAct (step q m.private)) (sym same) (acts-if (step c.code m.private) r told)

      pub goes-reply : IsReplyTo (step q m.private) r
      goes-reply = subst (λ (q : Code). IsReplyTo (step q m.private) r) (sym same) told

      pub goes-fits : Fits q m.private
      goes-fits = subst (λ (q : Code). Fits q m.private) (sym same) own-fits

  -- the machine after the reply
  pub answered-world : (m n : Machine) (r : Reply) → IsAnswer r → n.shared ≡ m.shared → n.standing ≡ m.standing →
      private_by (pairs_of m) n.private ≡ code_settle (slice_get codes m.shared.version)
      (after_reply (private_by (pairs_of m) m.private) (code_step (slice_get codes m.shared.version) (private_by (pairs_of m) m.private)) (reply_by (pairs_of m) r)) →
      world_of n ≡ answered (code_engine codes) (world_of m) 0 (thread_of m) (shared_of m.shared) (reply_by (pairs_of m) r)
  answered-world m n r free shared standing state =
      ap (λ (s : machine.Shared). alone (shared_of s) (thread_with s.outside n.private n.standing)) shared
      ∙ ap (λ (s : declared.Standing). alone (shared_of m.shared) (thread_with m.shared.outside n.private s)) standing
      ∙ by_reply r free (ap (λ (x : Private). alone (shared_of m.shared) (record { state = x; standing = standing_of m.standing })) state)
    where
      by_reply : (r : Reply) → IsAnswer r →
          alone (shared_of m.shared) (thread_with m.shared.outside n.private m.standing)
          ≡ alone (shared_of m.shared) (record {
            state = code_settle (slice_get codes m.shared.version)
                (after_reply (private_by (pairs_of m) m.private) (code_step (slice_get codes m.shared.version) (private_by (pairs_of m) m.private)) (reply_by (pairs_of m) r));
            standing = standing_of m.standing;
          }) →
          alone (shared_of m.shared) (thread_with m.shared.outside n.private m.standing)
          ≡ answered (code_engine codes) (world_of m) 0 (thread_of m) (shared_of m.shared) (reply_by (pairs_of m) r)
      by_reply Done free is = is
      by_reply (Got v) free is = is
      by_reply (Trapped t) free is = absurd free

  -- the thread goes on past its point
  pub refused-world : (m : Machine) (s q : machine.Shared) (x : Private) (h : Head) → q ≡ m.shared → s.outside ≡ q.outside →
      shared_of s ≡ marked (Close q.turns q.requests (closed.Point 0)) (record (shared_of q) { phase = Run }) → m.standing ≡ standing.Parked →
      private_by (pairs_of m) x ≡ code_settle (slice_get codes m.shared.version)
      (after_reply (private_by (pairs_of m) m.private) (code_step (slice_get codes m.shared.version) (private_by (pairs_of m) m.private)) Done) →
      world_of (record { shared = s; private = x; head = h; standing = standing.Live }) ≡ refused (code_engine codes) 0 (world_of m)
  refused-world m s q x h same outside shared parked state =
      let e = code_engine codes in
      let after : machine.Shared → Shared = λ q. marked (Close q.turns q.requests (closed.Point 0)) (record (shared_of q) { phase = Run }) in
      ap (λ (w : Shared). record { shared = w; threads = thread_with s.outside x standing.Live ∷ [] }) (shared ∙ ap after same)
      ∙ ap (λ (o : Outside). record { shared = after m.shared; threads = thread_with o x standing.Live ∷ [] }) (outside ∙ ap (λ (q : machine.Shared). q.outside) same)
      ∙ ap (λ (y : Private). record { shared = after m.shared; threads = record { state = y; standing = Live } ∷ [] }) state
      ∙ sym (ap (λ (st : declared.Standing). record { shared = after m.shared; threads = let_go e m.shared.version (thread_with m.shared.outside m.private st) ∷ [] }) parked)

  -- what an act elsewhere does, of a machine that is settled then
  pub elsewhere-without : (n : Machine) (h : Head) (w : World Private) → IsSettled codes n → world_of n ≡ left_at h w → world_of n ≡ without_ended w
  elsewhere-without n (head.Act act.ThreadEnd) w settled is = is
  elsewhere-without n (head.Act a) w settled is = is-without n w settled is
  elsewhere-without n (head.Trap t) w settled is = is-without n w settled is

  -- of a thread that has ended nothing is asked, whatever is shared
  pub ended-kept : (m n : Machine) → m.standing ≡ standing.Ended → n ≡ record m { shared = n.shared } → IsSettled codes m → IsSettled codes n
  ended-kept m n ended keeps h =
      subst (IsSettled codes) (sym keeps)
      (record {
        stands = λ e. absurd (true≢false (sym (ap (λ s. has_ended (standing_of s)) ended) ∙ e));
        parked = λ e. absurd (parked-ended (sym e ∙ ended));
        names = subst (λ (x : Private). PrivateIn (IsOld (pairs_of n)) x) (sym (h.ended ended)) (tt, tt, tt);
        ended = h.ended;
      })

-- a lock waits by address as it does by heap number
pub waits_at-by : (o : Outside) (a : Act) → heap.IsPairing (pairs_in o) (heap.memory o.heap) → ActIn (IsOld (pairs_in o)) a →
    waits_at (shown o).memory (rename_act (renamed (pairs_in o)) a) ≡ waits_at (heap.memory o.heap) a
waits_at-by o (act.Lock p) pairing names = waits-by o 0 p pairing names
waits_at-by o a pairing names = refl
