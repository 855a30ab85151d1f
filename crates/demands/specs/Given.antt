-- CHIP B13 and B14 over the whole chip: IN gives what the register at the pointer reads, then (CRC on) its CRC. Assumes nothing.
use Rattle.std.specs.Prelude.{◌≡◌, refl, Bool, true, false, [], ◌∷◌, ℕ, ◌+◌, ◌*◌, ◌<◌}
use Rattle.std.proofs.Common.{sym, ap, ◌∙◌, arith, eq-eqb, ne_eqb}
use Rattle.crc8.specs.Crc.{crc, byte_on}
use Rattle.crc8.proofs.DivisionLaws.{crc_is}
use Rattle.events.specs.declared.BusEvent.TheVariants.{Start, Out, In}
use Rattle.events.specs.Event.{OnBus, fits}
use Rattle.bus.specs.declared.Phase.TheVariants.{Address, Reading}
use Rattle.bus.specs.Bus.{line_of, outed, addressed, taken, byte_given, owing, after_data, keeps, goes}
use Rattle.chip.specs.declared.Chip.{Chip}
use Rattle.chip.specs.Chip.{line_moved, reads, on_bus, watched, stepped, next}
use Rattle.chip.specs.Calm.{Calmed}
use Rattle.chip.proofs.MovesLaws.{normal_is}
use Rattle.demands.specs.Checked.{ran, one_start, one_goes}

-- the bus reads, and no low byte is kept
abbrev pub reading : ℕ → Chip → Chip
reading s c = line_moved (line_of (Reading s false) c.bus.line.pointer) c

-- IN gives the register at the pointer ..
pub gives : (c : Chip) (s : ℕ) (nack : Bool) → c.normal ≡ true
    → (stepped (OnBus (In nack)) (reading s c)).byte ≡ reads c c.bus.line.pointer
unfolding fits byte_given
gives c s nack on = ap (λ t. t.byte) (normal_is (OnBus (In nack)) (reading s c) refl on)

-- .. and, CRC on, its CRC after it, whatever the register holds by then
pub gives_its_crc : (c : Chip) (s : ℕ) (nack : Bool) → c.setup.crc ≡ true → c.normal ≡ true
    → (stepped (OnBus (In nack)) (next (OnBus (In false)) (reading s c))).byte ≡ byte_on s (reads c c.bus.line.pointer)
unfolding fits taken byte_given owing after_data keeps
gives_its_crc c s nack k on =
    ap (λ t. (stepped (OnBus (In nack)) t.chip).byte) (normal_is (OnBus (In false)) (reading s c) refl on)
    ∙ ap (λ t. t.byte) (normal_is (OnBus (In nack)) (watched (on_bus (In false) (reading s c)).chip) refl on)
    ∙ (rw k)

-- ── from START on ──
called : (c : Chip) (a : ℕ)
    → outed c.setup (line_of Address a) (c.setup.address * 2 + 1) ≡ goes (Reading (byte_on 0 (c.setup.address * 2 + 1)) false) a
unfolding outed addressed
called c a =
    simp (
      ne_eqb (c.setup.address * 2 + 1) (c.setup.address * 2) (omega arith),
      eq-eqb (c.setup.address * 2 + 1) (c.setup.address * 2 + 1) refl,
    )

pub begins : (c : Chip) → Calmed c → c.normal ≡ true
    → ran c (OnBus Start ∷ OnBus (Out (c.setup.address * 2 + 1)) ∷ []) ≡ reading (byte_on 0 (c.setup.address * 2 + 1)) c
begins c m on =
    ap (next (OnBus (Out w))) (one_start c m on)
    ∙ one_goes c (line_of Address c.bus.line.pointer) w (Reading (byte_on 0 w) false) c.bus.line.pointer m on
    (called c c.bus.line.pointer)
  where
    w : ℕ
    w = c.setup.address * 2 + 1

-- the first CRC of a read has the address byte and the data
pub first_crc : (c : Chip) (nack : Bool) → Calmed c → c.setup.crc ≡ true → c.normal ≡ true → c.setup.address < 127
    → reads c c.bus.line.pointer < 256
    → (stepped (OnBus (In nack)) (ran c (OnBus Start ∷ OnBus (Out (c.setup.address * 2 + 1)) ∷ OnBus (In false) ∷ []))).byte
    ≡ crc ((c.setup.address * 2 + 1) ∷ reads c c.bus.line.pointer ∷ [])
first_crc c nack m k on ha hr =
    ap (λ d. (stepped (OnBus (In nack)) (next (OnBus (In false)) d)).byte) (begins c m on)
    ∙ gives_its_crc c (byte_on 0 (c.setup.address * 2 + 1)) nack k on
    ∙ sym (crc_is ((c.setup.address * 2 + 1) ∷ reads c c.bus.line.pointer ∷ []) (omega arith, (hr, tt)))
