-- CHIP P11: what the records lent so far say of a fault, by themselves: the verdicts of the waking spell in which they end, each by
-- the settings that stood when its scan or tick came, and how many of the newest are true. No run is kept. Assumes nothing.
use Rattle.std.specs.Prelude.{◌≡◌, refl, Bool, cond, List, [], ℕ, leb, length, Result}
use Rattle.constants.specs.Range.{STREAM_MOST}
use Rattle.events.specs.declared.Setup.{Setup as SetupValues}
use Rattle.events.specs.declared.Event.{Event as Coded}
use Rattle.events.specs.declared.Event.TheVariants.{Setup, Por, Boot, Scan, Temp, Count, Sense, Pin, Load, Xready, OnBus, Level, Ticks}
use Rattle.events.specs.declared.Event.TheVariants.{Soak, Wires}
use Rattle.events.specs.declared.Fault.{Fault}
use Rattle.records.specs.declared.Read.{Read}
use Rattle.records.specs.declared.Read.TheVariants.{Record, Refused, Cut}
use Rattle.events.specs.Setup.{standing}
use Rattle.records.specs.Record.{read_of}
use Rattle.constants.specs.Answer.{Said, gives, refuses}
use Rattle.protection.specs.Streak.{streak}
use Rattle.demands.specs.Demand.{verdicts}
use Rattle.demands.specs.Streams.{heard}
use Rattle.plain_due.specs.Streaks.{Streaks, streaks_of}
use Rattle.constants.specs.declared.refusal.Refusal.{Refusal}
use Rattle.constants.specs.Refusal.{said_of}
use Rattle.constants.proofs.RefusalLaws.{same_said}

-- the setup of the first record; where it is no SETUP no chip stands
abbrev pub setup_read : Coded → SetupValues
setup_read (Setup v) = v
setup_read Por = standing 0
setup_read Boot = standing 0
setup_read Scan = standing 0
setup_read Temp = standing 0
setup_read (Count n) = standing 0
setup_read (Sense v) = standing 0
setup_read Pin = standing 0
setup_read (Load l) = standing 0
setup_read Xready = standing 0
setup_read (OnBus b) = standing 0
setup_read (Level l) = standing 0
setup_read (Ticks v n) = standing 0
setup_read (Soak v n) = standing 0
setup_read (Wires n) = standing 0

-- the verdicts on k of the records of s, newest first, by its first record
abbrev pub verdicts_after : Fault → List ℕ → Read → List Bool
verdicts_after k s (Record e next) = verdicts (setup_read e) k (heard (setup_read e) next s)
verdicts_after k s (Refused n next) = []
verdicts_after k s Cut = []

unfoldable pub verdicts_in : Fault → List ℕ → List Bool
verdicts_in k s = verdicts_after k s (read_of 0 s)

-- ── how many of the newest are true ──
unfoldable pub streaks_in : List ℕ → Streaks
streaks_in s = streaks_of (λ k. streak (verdicts_in k s))

-- ── at most 65,536 bytes; a longer stream is refused with 24 ──
abbrev pub most : ℕ
most = STREAM_MOST

abbrev pub too_long : ℕ
too_long = 24

abbrev pub said_back : Result Streaks Refusal → Said Streaks
said_back a = said_of (λ w. w) a

abbrev pub back_said : List ℕ → Said Streaks
back_said s = cond (leb (length s) most) (gives (streaks_in s)) (refuses too_long)

-- what is said loses nothing: two answers that say the same are the same
pub same_back : (a b : Result Streaks Refusal) → said_back a ≡ said_back b → a ≡ b
same_back a b h = same_said (λ w. w) (λ w. w) (λ w. refl) a b h
