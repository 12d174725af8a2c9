use Rattle.std.proofs.Common.{refl}
use Rattle.kt_play.proofs.TypedLemmas.{typed_as}
use Rattle.kt_play.proofs.text.of_check.Goals as goal

pub returns-in-Unknown : goal.returns-in-Unknown
returns-in-Unknown c = λ bytes h. (refl, typed_as bytes c.args.fault _ c.in-Unknown.is (λ e. cc) h)

pub returns-in-Twice : goal.returns-in-Twice
returns-in-Twice c = λ bytes h. (refl, typed_as bytes c.args.fault _ c.in-Twice.is (λ e. cc) h)

pub returns-in-BadType : goal.returns-in-BadType
returns-in-BadType c = λ bytes h. (refl, typed_as bytes c.args.fault _ c.in-BadType.is (λ e. cc) h)

pub returns-in-Incomplete : goal.returns-in-Incomplete
returns-in-Incomplete c = λ bytes h. (refl, typed_as bytes c.args.fault _ c.in-Incomplete.is (λ e. cc) h)

pub returns-in-TooBig : goal.returns-in-TooBig
returns-in-TooBig c = λ bytes h. (refl, typed_as bytes c.args.fault _ c.in-TooBig.is (λ e. cc) h)

pub returns-in-Entry : goal.returns-in-Entry
returns-in-Entry c = λ bytes h. (refl, typed_as bytes c.args.fault _ c.in-Entry.is (λ e. cc) h)

pub returns-in-Note : goal.returns-in-Note
returns-in-Note c = λ bytes h. (refl, typed_as bytes c.args.fault _ c.in-Note.is (λ e. cc) h)

pub returns-in-NoMain : goal.returns-in-NoMain
returns-in-NoMain c = λ bytes h. (refl, typed_as bytes c.args.fault _ c.in-NoMain.is (λ e. cc) h)
