-- The number settles the refusal, and what a result says settles the result (CHIP O2). Assumes nothing.
use Rattle.std.specs.Prelude.{◌≡◌, refl, ℕ, List, [], ◌∷◌, get_or, Result, Ok, Err}
use Rattle.std.proofs.Common.{sym, ap, ◌∙◌}
use Rattle.constants.specs.Answer.{Said, gives, refuses}
use Rattle.constants.specs.Refusal.{number_of, said_of}
use Rattle.constants.specs.declared.refusal.Refusal.{Refusal}
use Rattle.constants.specs.declared.refusal.Refusal.TheVariants.{BadSetup, BadKind, BadValue, Asleep, NoRoom, NoCell, OpenSensor}
use Rattle.constants.specs.declared.refusal.Refusal.TheVariants.{NoCode, CutShort, NotConnected, NoFit, External, NoRow, NoList}
use Rattle.constants.specs.declared.refusal.Refusal.TheVariants.{BadAddress, SeasonFull, BadCommand, TooLong, OtherChip, NoChip}
use Rattle.constants.specs.declared.refusal.Refusal.TheVariants.{NoRecord, NotSo}

-- the refusals by their number; no call gives 0 or 14 to 19 for one
refusals : List Refusal
refusals =
    NotSo ∷ BadSetup ∷ BadKind ∷ BadValue ∷ Asleep ∷ NoRoom ∷ NoCell ∷ OpenSensor ∷ NoCode ∷ CutShort ∷ NotConnected ∷ NoFit
    ∷ External ∷ NoRow ∷ NotSo ∷ NotSo ∷ NotSo ∷ NotSo ∷ NotSo ∷ NotSo ∷ NoList ∷ BadAddress ∷ SeasonFull ∷ BadCommand ∷ TooLong
    ∷ OtherChip ∷ NoChip ∷ NoRecord ∷ NotSo ∷ []

refusal_of : ℕ → Refusal
refusal_of n = get_or refusals n NotSo

refusal_number : (why : Refusal) → refusal_of (number_of why) ≡ why
unfolding refusal_of refusals
refusal_number BadSetup = refl
refusal_number BadKind = refl
refusal_number BadValue = refl
refusal_number Asleep = refl
refusal_number NoRoom = refl
refusal_number NoCell = refl
refusal_number OpenSensor = refl
refusal_number NoCode = refl
refusal_number CutShort = refl
refusal_number NotConnected = refl
refusal_number NoFit = refl
refusal_number External = refl
refusal_number NoRow = refl
refusal_number NoList = refl
refusal_number BadAddress = refl
refusal_number SeasonFull = refl
refusal_number BadCommand = refl
refusal_number TooLong = refl
refusal_number OtherChip = refl
refusal_number NoChip = refl
refusal_number NoRecord = refl
refusal_number NotSo = refl

pub same_refusal : (a b : Refusal) → number_of a ≡ number_of b → a ≡ b
same_refusal a b e = sym (refusal_number a) ∙ ap refusal_of e ∙ refusal_number b

-- 0 is no refusal's
pub no_zero : (why : Refusal) → number_of why ≡ 0 → ⊥
unfolding refusal_of refusals
no_zero why e =
    let n : why ≡ NotSo = sym (refusal_number why) ∙ ap refusal_of e in
    let z : number_of NotSo ≡ 0 = ap number_of (sym n) ∙ e in
    cc

told : {A B : Type 0} → (B → A) → Said B → Result A Refusal
told back (gives v) = Ok (back v)
told back (refuses n) = Err (refusal_of n)

told_said : {A B : Type 0} (f : A → B) (back : B → A) → ((a : A) → back (f a) ≡ a) → (r : Result A Refusal)
    → told back (said_of f r) ≡ r
unfolding told
told_said f back same (Ok v) = ap Ok (same v)
told_said f back same (Err why) = ap Err (refusal_number why)

-- two results that say the same are the same, where a value can be told from how it is seen
pub same_said : {A B : Type 0} (f : A → B) (back : B → A) → ((a : A) → back (f a) ≡ a) → (r s : Result A Refusal)
    → said_of f r ≡ said_of f s → r ≡ s
same_said f back same r s e = sym (told_said f back same r) ∙ ap (told back) e ∙ told_said f back same s
