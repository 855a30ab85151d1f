-- Number, flag and byte settle the code's answer, and what was heard: two that are one among the definitions are the same. A refusal's
-- number is never 0. Assumes nothing.
use Rattle.std.specs.Prelude.{◌≡◌, refl, ℕ, false, eqb, Option, Some, None, Result, Ok, Err}
use Rattle.std.proofs.Common.{sym, ap, ◌∙◌, true≢false}
use Rattle.constants.specs.Refusal.{number_of}
use Rattle.constants.proofs.RefusalLaws.{same_refusal}
use Rattle.constants.specs.declared.refusal.Refusal.{Refusal}
use Rattle.constants.specs.declared.refusal.Refusal.TheVariants.{BadSetup, BadKind, BadValue, Asleep, NoRoom, NoCell, OpenSensor}
use Rattle.constants.specs.declared.refusal.Refusal.TheVariants.{NoCode, CutShort, NotConnected, NoFit, External, NoRow, NoList}
use Rattle.constants.specs.declared.refusal.Refusal.TheVariants.{BadAddress, SeasonFull, BadCommand, TooLong, OtherChip, NoChip}
use Rattle.constants.specs.declared.refusal.Refusal.TheVariants.{NoRecord, NotSo}
use Rattle.bus.specs.declared.Bus.{Bus}
use Rattle.bus.specs.Bus.{Store}
use Rattle.chip.specs.declared.Chip.{Chip}
use Rattle.chip.specs.declared.Stepped.{Stepped as GivenStep}
use Rattle.chip.specs.declared.Heard.{Heard as GivenHeard}
use Rattle.chip.specs.Answer.{Stepped, Heard, flag_of, byte_of, number_in, flag_in, byte_in, as_step, as_heard}

pub never_done : (why : Refusal) → eqb (number_of why) 0 ≡ false
never_done BadSetup = refl
never_done BadKind = refl
never_done BadValue = refl
never_done Asleep = refl
never_done NoRoom = refl
never_done NoCell = refl
never_done OpenSensor = refl
never_done NoCode = refl
never_done CutShort = refl
never_done NotConnected = refl
never_done NoFit = refl
never_done External = refl
never_done NoRow = refl
never_done NoList = refl
never_done BadAddress = refl
never_done SeasonFull = refl
never_done BadCommand = refl
never_done TooLong = refl
never_done OtherChip = refl
never_done NoChip = refl
never_done NoRecord = refl
never_done NotSo = refl

not_done : (why : Refusal) → number_of why ≡ 0 → ⊥
not_done why e = true≢false (ap (λ (n : ℕ). eqb n 0) (sym e) ∙ never_done why)

same_byte : (a b : Option ℕ) → flag_of a ≡ flag_of b → byte_of a ≡ byte_of b → a ≡ b
same_byte None None f e = refl
same_byte None (Some y) f e = absurd (true≢false (sym f))
same_byte (Some x) None f e = absurd (true≢false f)
same_byte (Some x) (Some y) f e = ap Some e

same_answer : (a b : Result (Option ℕ) Refusal) → number_in a ≡ number_in b → flag_in a ≡ flag_in b → byte_in a ≡ byte_in b → a ≡ b
same_answer (Ok x) (Ok y) n f e = ap Ok (same_byte x y f e)
same_answer (Ok x) (Err w) n f e = absurd (not_done w (sym n))
same_answer (Err v) (Ok y) n f e = absurd (not_done v n)
same_answer (Err v) (Err w) n f e = ap Err (same_refusal v w n)

pub same_step : (a b : GivenStep) → as_step a ≡ as_step b → a ≡ b
same_step a b h =
    let c : a.chip ≡ b.chip = ap (λ (s : Stepped). s.chip) h in
    let e : a.answer ≡ b.answer =
    same_answer a.answer b.answer (ap (λ (s : Stepped). s.number) h) (ap (λ (s : Stepped). s.flag) h) (ap (λ (s : Stepped). s.byte) h) in
    ap (λ (d : Chip). record { chip = d; answer = a.answer }) c
    ∙ ap (λ (r : Result (Option ℕ) Refusal). record { chip = b.chip; answer = r }) e

pub same_heard : (a b : GivenHeard) → as_heard a ≡ as_heard b → a ≡ b
same_heard a b h =
    let c : a.bus ≡ b.bus = ap (λ (s : Heard). s.bus) h in
    let e : a.byte ≡ b.byte = same_byte a.byte b.byte (ap (λ (s : Heard). s.flag) h) (ap (λ (s : Heard). s.byte) h) in
    let s : a.store ≡ b.store = ap (λ (s : Heard). s.store) h in
    ap (λ (d : Bus). record { bus = d; byte = a.byte; store = a.store }) c
    ∙ ap (λ (r : Option ℕ). record { bus = b.bus; byte = r; store = a.store }) e
    ∙ ap (λ (t : Store). record { bus = b.bus; byte = b.byte; store = t }) s
