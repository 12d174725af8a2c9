use Rattle.std.proofs.Common.{sym, ap, ◌∙◌}
use Rattle.kt_names.specs.Types.{place_of_type}
use Rattle.kt_names.proofs.Keys.{inserted-type, inserted-place}
use Rattle.kt_names.proofs.listing.Listing.add.Goals as goal

pub returns-clause-types : goal.returns-clause-types
returns-clause-types c = c.in_ok-added.ensures.keys ∙ inserted-type c.args.self.now.types.keys c.args.ty

pub returns-clause-place : goal.returns-clause-place
returns-clause-place c =
    c.in_ok-added.ensures.index ∙ inserted-place c.args.self.now.types.keys c.args.ty
    ∙ ap (λ ts. place_of_type ts c.args.ty) (sym (c.in_ok-added.ensures.keys ∙ inserted-type c.args.self.now.types.keys c.args.ty))
