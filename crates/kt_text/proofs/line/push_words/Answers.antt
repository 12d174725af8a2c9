use Rattle.std.proofs.Common.{◌++◌, ◌∷◌, [], sym, ap, ◌∙◌}
use Rattle.kt_text.proofs.Spaced.{line-empty, line-appended}
use Rattle.kt_text.proofs.line.push_words.Goals as goal
use Rattle.kt_text.proofs.line.push_words.Goals.{in_default, in-len1-up+in_ok-extend_from_slice+else-loop-word-test}

pub returns-clause-ok : goal.returns-clause-ok
returns-clause-ok c =
    elim c.if-words-lt1.branch [
      | in_default w ↦ c.in_ok-push-2.ensures.items ∙ ap (λ out. out.items ++ 10 ∷ []) w.out-is ∙ ap (λ line. c.args.out.now.items ++ line) (sym (line-empty c.args.words.now w.in_default.len_below))
      | in-len1-up+in_ok-extend_from_slice+else-loop-word-test w ↦
          line-appended c.args.words.now (record { ref_ptr = (0, 0); now = [] }) w.loop-word.word-index c.args.out.now.items w.extend_from_slice.new.self.items w.loop-word.out.items
          c.push-2.new.self.items w.in-len1-up.len_at_least w.loop-word-test.false w.in_ok-extend_from_slice.ensures.items w.loop-word.invariant.words
          (c.in_ok-push-2.ensures.items ∙ ap (λ out. out.items ++ 10 ∷ []) w.out-is)
    ]
