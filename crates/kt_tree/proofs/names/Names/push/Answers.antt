use Rattle.std.proofs.Common.{◌≡◌, ◌++◌, ◌∷◌, [], ap, sym, ◌∙◌, ℕ, ◌==◌, if◌then◌else◌, false, map}
use Rattle.std.specs.Cmp.Lexicographic.{pointwise}
use Rattle.std.specs.List.{list_any}
use Rattle.std.proofs.lemmas.List.{map_push}
use Rattle.kt_tree.specs.Names.{is_one_of}
use Rattle.kt_tree.proofs.Places.{list_any-map}
use Rattle.kt_tree.proofs.names.Names.push.Goals as goal

pub returns : goal.returns
returns c =
    let keys = c.self.inside.set.keys in
    let new : list_any (λ k. pointwise ◌==◌ c.in_ok-name.name.items k.items) keys ≡ false =
    list_any-map (λ k. k.items) (pointwise ◌==◌ c.in_ok-name.name.items) keys
    ∙ ap (list_any (pointwise ◌==◌ c.in_ok-name.name.items)) c.self.view_is
    ∙ ap (λ n. is_one_of n c.args.self.now) c.in_ok-name.ensures.items ∙ c.requires.new in
    ap (map (λ k. k.items)) (c.in_ok-insert.ensures.keys ∙ ap (λ b. if b then keys else keys ++ c.in_ok-name.name ∷ []) new)
    ∙ map_push (λ k. k.items) keys c.in_ok-name.name ∙ ap (λ l. l ++ c.in_ok-name.name.items ∷ []) c.self.view_is ∙ ap (λ n. c.args.self.now ++ n ∷ []) c.in_ok-name.ensures.items
