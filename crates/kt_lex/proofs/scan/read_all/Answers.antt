use Rattle.std.proofs.Common.{◌≡◌, ◌<◌, ◌⊎◌, ◌++◌, length, take, drop, Ok, Err, is_ok, sym, refl, ap, ◌∙◌, subst, inl, arith, false-eqb, eqb-true, append-nil}
use Rattle.std.specs.Prelude.{MatchResult}
use Rattle.std.proofs.ResultArms.{chosen}
use Rattle.std.proofs.lemmas.Result.{err_from_is_err_and}
use Rattle.kt_lex.specs.declared.token.LexFault.TheVariants.{NoMemory}
use Rattle.kt_lex.specs.Tokens.{size_of, tokens_of}
use Rattle.kt_lex.proofs.Fronts.{IsPieceOf}
use Rattle.kt_lex.proofs.Reading.{IsRead, IsBehind, token_from, IsRead-start, IsRead-piece, IsRead-fault, IsRead-end, IsRead-next}
use Rattle.kt_lex.proofs.scan.read_all.Goals as goal
use Rattle.kt_lex.proofs.scan.read_all.Goals.{After-behind-next}

pub loop-rest-init : goal.loop-rest-init
loop-rest-init c =
    subst (λ l. IsRead c.args.bytes.now _ l c.args.bytes.now) (sym c.new-tokens.ensures.items) (IsRead-start c.args.bytes.now _ refl refl refl)

-- the piece at the front, which fits the rest
piece_fits : (c : After-behind-next) → IsPieceOf c.loop-rest.invariant.before c.loop-rest.rest.now c.in_ok-piece.piece
piece_fits c = IsRead-piece _ _ _ _ _ c.loop-rest.invariant (omega (arith, false-eqb _ 0 c.loop-rest-test.ensures)) (sym c.in_ok-piece.ensures)

pub split_at-requires : goal.split_at-requires
split_at-requires c =
    let fits = IsRead-piece _ _ _ _ _ c.loop-rest.invariant (omega (arith, false-eqb _ 0 c.loop-rest-test.ensures)) (sym c.in_ok-piece.ensures) in
    omega (arith, fits.within, c.size.ensures)

pub returns-in_err-piece : goal.returns-in_err-piece
returns-in_err-piece c =
    let returned = err_from_is_err_and c.from_residual.result c.from_residual.ensures.1 in
    subst (λ r. MatchResult r (λ v. tokens_of c.args.bytes.now ≡ Ok v.items) (λ e. (tokens_of c.args.bytes.now ≡ Err e) ⊎ (e ≡ NoMemory))) (sym returned.1) (
    inl (
    IsRead-fault _ _ _ _ _ c.loop-rest.invariant (omega (arith, false-eqb _ 0 c.loop-rest-test.ensures)) (sym c.in_err-piece.ensures)
    ∙ ap (λ e. Err e) (sym returned.2)
    )
    )

-- the place that `behind` gives is the one behind the piece's bytes
behind_piece : (c : After-behind-next) → IsBehind c.loop-rest.place c.behind-next.result (take (size_of c.in_ok-piece.piece) c.loop-rest.rest.now)
behind_piece c =
    let bytes = c.split_at.ensures.front ∙ ap (λ n. take n c.loop-rest.rest.now) c.size.ensures in
    subst (IsBehind c.loop-rest.place c.behind-next.result) bytes (record {
      at = c.behind-next.ensures.at;
      newlines = c.behind-next.ensures.newlines;
      indented = c.behind-next.ensures.indented;
    })

next_is_read : (c : After-behind-next) → IsRead c.args.bytes.now c.behind-next.result (c.loop-rest.tokens.items ++ token_from c.loop-rest.place c.behind-next.result c.in_ok-piece.piece) c.split_at.result.1.now
next_is_read c =
    let fits = piece_fits c in
    let after = c.split_at.ensures.back ∙ ap (λ n. drop n c.loop-rest.rest.now) c.size.ensures in
    subst (IsRead c.args.bytes.now c.behind-next.result _) (sym after)
    (IsRead-next c.args.bytes.now c.loop-rest.place c.behind-next.result c.loop-rest.tokens.items c.loop-rest.rest.now c.in_ok-piece.piece c.loop-rest.invariant (omega (arith, false-eqb _ 0 c.loop-rest-test.ensures)) fits.positive fits.within (sym c.in_ok-piece.ensures) (behind_piece c))

-- the piece has a byte, so less is left
less_is_left : (c : After-behind-next) → length c.split_at.result.1.now < length c.loop-rest.rest.now
less_is_left c =
    let fits = piece_fits c in
    omega (arith, fits.positive, fits.within, c.size.ensures, c.split_at.ensures.back_len)

pub loop-rest-smaller-in_ok-map_err : goal.loop-rest-smaller-in_ok-map_err
loop-rest-smaller-in_ok-map_err c = less_is_left (goal.at.loop-rest-smaller-in_ok-map_err c).After-behind-next

pub loop-rest-preserved-in_ok-map_err : goal.loop-rest-preserved-in_ok-map_err
loop-rest-preserved-in_ok-map_err c =
    let is_read = next_is_read (goal.at.loop-rest-preserved-in_ok-map_err c).After-behind-next in
    let pushed = chosen _ _ _ _ c.push.ensures.items (sym c.map_err.ensures.variant ∙ ap is_ok c.in_ok-map_err.was) in
    subst (λ l. IsRead c.args.bytes.now c.behind-next.result l c.split_at.result.1.now)
    (ap (λ piece. c.loop-rest.tokens.items ++ token_from c.loop-rest.place c.behind-next.result piece) c.in-Word.is ∙ sym pushed)
    is_read

pub loop-rest-smaller : goal.loop-rest-smaller
loop-rest-smaller c = less_is_left (goal.at.loop-rest-smaller c).After-behind-next

pub loop-rest-preserved : goal.loop-rest-preserved
loop-rest-preserved c =
    let is_read = next_is_read (goal.at.loop-rest-preserved c).After-behind-next in
    subst (λ l. IsRead c.args.bytes.now c.behind-next.result l c.split_at.result.1.now)
    (ap (λ piece. c.loop-rest.tokens.items ++ token_from c.loop-rest.place c.behind-next.result piece) c.in_default.is ∙ append-nil c.loop-rest.tokens.items)
    is_read

pub returns : goal.returns
returns c = IsRead-end _ _ _ _ c.loop-rest.invariant (eqb-true _ 0 (sym c.loop-rest-test.ensures))
