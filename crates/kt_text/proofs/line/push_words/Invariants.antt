use Rattle.std.proofs.Common.{◌≡◌, ◌≤◌, ◌++◌, map, drop, take, vec_len}
use Rattle.kt_text.proofs.Spaced.{spaced}
use Rattle.kt_text.proofs.line.push_words.Given as goal

-- with the rest of the words it is what the words make
abbrev pub invariant-loop-word : goal.invariant-loop-word
invariant-loop-word l = record {
  words : l.out.items ++ spaced (map (λ word. word.now) (drop l.word-index l.rest)) ≡ l.initial.out.items ++ spaced (map (λ word. word.now) l.rest);
  before : take (vec_len l.fn.out) l.out.items ≡ l.fn.out.items;
  longer : vec_len l.fn.out ≤ vec_len l.out;
}
