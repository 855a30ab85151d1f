-- CHIP G1 to G5 and G20: laws of reading and writing, for every value of the registers. Assumes nothing.
use Rattle.std.specs.Prelude.{◌≡◌, refl, Bool, true, false, not, ◌&&◌, ◌||◌, cond, ℕ, ◌+◌, ◌*◌, ◌-◌, ◌/◌, ◌%◌, ◌<◌, ◌≤◌, eqb, leb, ltb}
use Rattle.std.proofs.Common.{sym, ap, ◌∙◌, arith, eqb-true, ne_eqb, ltb-true, ltb-false, lt-ltb, le-ltb, le-leb}
use Rattle.std.proofs.lemmas.Bool.{lt-leb}
use Rattle.events.specs.declared.Setup.{Setup}
use Rattle.events.specs.Setup.{groups, inputs}
use Rattle.bits.specs.Bit.{weighed}
use Rattle.settings.specs.Write.{protect1_of, protect2_of, protect3_of, cc_cfg_of, settings_with}
use Rattle.settings.specs.Read.{settings_byte}
use Rattle.registers.specs.declared.Status.{Status}
use Rattle.registers.specs.declared.Cellbal.{Cellbal}
use Rattle.registers.specs.declared.Measured.{Measured}
use Rattle.registers.specs.declared.Registers.{Registers}
use Rattle.registers.specs.State.{alert}
use Rattle.registers.specs.Write.{status_of, without, five_of, shown_with, cellbal_with, written}
use Rattle.registers.specs.Read.{status_byte, cellbal_byte, control_byte, half, word_at, fixed_byte, read_at, pair_at}

-- ── writes to unnamed and read_only addresses change nothing ──
pub read_only : (u : Setup) (a v : ℕ) (r : Registers) → 0x0B < a → written u a v r ≡ r
unfolding settings_with shown_with cellbal_with
read_only u a v r h =
    simp (
      differs 0x00 (omega arith),
      differs 0x01 (omega arith),
      differs 0x02 (omega arith),
      differs 0x03 (omega arith),
      differs 0x04 (omega arith),
      differs 0x05 (omega arith),
      differs 0x06 (omega arith),
      differs 0x07 (omega arith),
      differs 0x08 (omega arith),
      differs 0x09 (omega arith),
      differs 0x0A (omega arith),
      differs 0x0B (omega arith),
    )
  where
    differs : (n : ℕ) → n ≤ 0x0B → eqb a n ≡ false
    differs n k = ne_eqb a n (λ e. omega arith)

-- ── a part lacks the CELLBAL registers past its groups: they keep nothing and read 0 ──
and_lacks : (a n g : ℕ) → g < a → (eqb a n && leb n g) ≡ false
and_lacks a n g h = by (eqb a n) refl
  where
    by : (t : Bool) → eqb a n ≡ t → (t && leb n g) ≡ false
    by true e = lt-leb n g (omega (arith, eqb-true a n e))
    by false e = refl

pub lacks_cellbal : (u : Setup) (a v : ℕ) (b : Cellbal) → groups u < a → cellbal_with u a v b ≡ b
unfolding cellbal_with
lacks_cellbal u a v b h = simp (and_lacks a 0x01 (groups u) h, and_lacks a 0x02 (groups u) h, and_lacks a 0x03 (groups u) h)

pub lacks_cellbal_byte : (u : Setup) (b : Cellbal) (a : ℕ) → groups u < a → cellbal_byte u b a ≡ 0
unfolding cellbal_byte
lacks_cellbal_byte u b a h = simp (and_lacks a 0x01 (groups u) h, and_lacks a 0x02 (groups u) h, and_lacks a 0x03 (groups u) h)

-- ── what the part lacks, and what has no name, reads 0, whatever the registers hold ──
half_none : (a : ℕ) → half a 0 ≡ 0
unfolding half
half_none a = by (eqb (a % 2) 0)
  where
    by : (t : Bool) → ◌≡◌ {A = ℕ} (cond t 0 0) 0
    by true = refl
    by false = refl

pub lacks_five : (u : Setup) (r : Registers) (a : ℕ) → groups u < a → a < 0x04 → read_at u r a ≡ 0
unfolding read_at control_byte
lacks_five u r a h k =
    simp (
      lt-ltb a 0x0C (omega arith),
      ne_eqb a 0x00 (λ e. omega arith),
      ne_eqb a 0x04 (λ e. omega arith),
      ne_eqb a 0x05 (λ e. omega arith),
      lt-ltb a 0x04 k,
      lacks_cellbal_byte u r.cellbal a h,
    )

pub lacks_cell : (u : Setup) (r : Registers) (a : ℕ) → 0x0C + 2 * inputs u ≤ a → a < 0x2A → read_at u r a ≡ 0
unfolding read_at word_at
lacks_cell u r a h k =
    simp (
      le-ltb a 0x0C (omega arith),
      lt-ltb a 0x34 (omega arith),
      lt-ltb a 0x2A k,
      le-ltb ((a - 0x0C) / 2) (inputs u) (omega arith),
      half_none,
    )

pub lacks_thermistor : (u : Setup) (r : Registers) (a : ℕ) → 0x2C + 2 * groups u ≤ a → a < 0x32 → read_at u r a ≡ 0
unfolding read_at word_at
lacks_thermistor u r a h k =
    simp (
      le-ltb a 0x0C (omega arith),
      lt-ltb a 0x34 (omega arith),
      le-ltb a 0x2A (omega arith),
      le-ltb a 0x2C (omega arith),
      lt-ltb a 0x32 k,
      le-ltb ((a - 0x2C) / 2) (groups u) (omega arith),
      half_none,
    )

pub unnamed : (u : Setup) (r : Registers) (a : ℕ) → 0x34 ≤ a → (a ≡ 0x50 → ⊥) → (a ≡ 0x51 → ⊥) → (a ≡ 0x59 → ⊥) → read_at u r a ≡ 0
unfolding read_at fixed_byte
unnamed u r a h p q s = simp (le-ltb a 0x0C (omega arith), le-ltb a 0x34 h, ne_eqb a 0x50 p, ne_eqb a 0x51 q, ne_eqb a 0x59 s)

-- ── no read depends on the offset, but 0x51 itself ──
abbrev pub with_offset : ℕ → Setup → Setup
with_offset o u =
    record {
      part = u.part;
      crc = u.crc;
      address = u.address;
      gain_code = u.gain_code;
      offset = o;
      floor = u.floor;
      cells = u.cells;
    }

pub offset_alone : (o : ℕ) (u : Setup) (r : Registers) (a : ℕ) → (a ≡ 0x51 → ⊥) → read_at (with_offset o u) r a ≡ read_at u r a
unfolding read_at control_byte cellbal_byte word_at fixed_byte groups inputs
offset_alone o u r a h = simp (ne_eqb a 0x51 h)

pub offset_shows : (u : Setup) (r : Registers) → read_at u r 0x51 ≡ u.offset
unfolding read_at fixed_byte
offset_shows u r = refl

-- ── read back: a plain register holds the bits that it has of the byte written ──
pub data Plain (u : Setup) : ℕ → (ℕ → ℕ) → Type 0 where
  cellbal1 : 1 ≤ groups u → Plain u 0x01 five_of
  cellbal2 : 2 ≤ groups u → Plain u 0x02 five_of
  cellbal3 : 3 ≤ groups u → Plain u 0x03 five_of
  protect1 : Plain u 0x06 protect1_of
  protect2 : Plain u 0x07 protect2_of
  protect3 : Plain u 0x08 protect3_of
  ov_trip : Plain u 0x09 (λ v. v)
  uv_trip : Plain u 0x0A (λ v. v)
  cc_cfg : Plain u 0x0B cc_cfg_of

pub plain_back : {u : Setup} {a : ℕ} {bits : ℕ → ℕ} → Plain u a bits → (v : ℕ) (r : Registers) → read_at u (written u a v r) a ≡ bits v
unfolding read_at control_byte cellbal_byte cellbal_with settings_byte settings_with
plain_back {u} (cellbal1 h) v r = simp (le-leb 1 (groups u) h) (omega arith)
plain_back {u} (cellbal2 h) v r = simp (le-leb 2 (groups u) h) (omega arith)
plain_back {u} (cellbal3 h) v r = simp (le-leb 3 (groups u) h) (omega arith)
plain_back protect1 v r = omega arith
plain_back protect2 v r = omega arith
plain_back protect3 v r = omega arith
plain_back ov_trip v r = refl
plain_back uv_trip v r = refl
plain_back cc_cfg v r = omega arith

-- and SYS_STAT holds what the ones written did not clear
pub status_back : (u : Setup) (v : ℕ) (r : Registers)
    → read_at u (written u 0x00 v r) 0x00 ≡ status_byte (without (status_of v) r.shown.status)
unfolding read_at control_byte shown_with
status_back u v r = refl

-- ── ALERT (CHIP G20) ──
some_bit : (a b c d e f g : Bool)
    → a || b || c || d || e || f || g
    ≡ not (eqb (weighed a 128 + weighed b 32 + weighed c 16 + weighed d 8 + weighed e 4 + weighed f 2 + weighed g 1) 0)
some_bit true b c d e f g =
    sym (ap not
    (ne_eqb (128 + weighed b 32 + weighed c 16 + weighed d 8 + weighed e 4 + weighed f 2 + weighed g 1) 0 (λ z. omega (arith, z))))
some_bit false true c d e f g =
    sym (ap not (ne_eqb (0 + 32 + weighed c 16 + weighed d 8 + weighed e 4 + weighed f 2 + weighed g 1) 0 (λ z. omega (arith, z))))
some_bit false false true d e f g =
    sym (ap not (ne_eqb (0 + 0 + 16 + weighed d 8 + weighed e 4 + weighed f 2 + weighed g 1) 0 (λ z. omega (arith, z))))
some_bit false false false true e f g =
    sym (ap not (ne_eqb (0 + 0 + 0 + 8 + weighed e 4 + weighed f 2 + weighed g 1) 0 (λ z. omega (arith, z))))
some_bit false false false false true f g = sym (ap not (ne_eqb (0 + 0 + 0 + 0 + 4 + weighed f 2 + weighed g 1) 0 (λ z. omega (arith, z))))
some_bit false false false false false true g = sym (ap not (ne_eqb (0 + 0 + 0 + 0 + 0 + 2 + weighed g 1) 0 (λ z. omega (arith, z))))
some_bit false false false false false false true = refl
some_bit false false false false false false false = refl

pub alert_is : (t : Status) → alert t ≡ not (eqb (status_byte t) 0)
alert_is t = some_bit t.cc_ready t.xready t.ovrd_alert t.uv t.ov t.scd t.ocd

-- ── a pair's low byte, as IN is told it, is what the odd address reads ──
even_below : (a k : ℕ) → a % 2 ≡ 0 → k % 2 ≡ 0 → ltb (a + 1) k ≡ ltb a k
even_below a k e f = by (ltb a k) refl
  where
    by : (t : Bool) → ltb a k ≡ t → ltb (a + 1) k ≡ ltb a k
    by true h = let p : a < k = ltb-true a k h in lt-ltb (a + 1) k (omega arith) ∙ sym h
    by false h = let p : k ≤ a = ltb-false a k h in le-ltb (a + 1) k (omega arith) ∙ sym h

same_word : (u : Setup) (m : Measured) (a : ℕ) → a % 2 ≡ 0 → 0x0C ≤ a → word_at u m (a + 1) ≡ word_at u m a
unfolding word_at
same_word u m a e h =
    let p : (a + 1 - 0x0C) / 2 ≡ (a - 0x0C) / 2 = omega arith in
    let q : (a + 1 - 0x2C) / 2 ≡ (a - 0x2C) / 2 = omega arith in
    simp (even_below a 0x2A e refl, even_below a 0x2C e refl, even_below a 0x32 e refl, p, q)

pub pair_low : (u : Setup) (r : Registers) (a : ℕ) → a % 2 ≡ 0 → 0x0C ≤ a → a ≤ 0x32 → (pair_at u r a).low ≡ read_at u r (a + 1)
unfolding pair_at read_at half
pair_low u r a e h k =
    simp (
      le-ltb a 0x0C h,
      lt-ltb a 0x34 (omega arith),
      le-ltb (a + 1) 0x0C (omega arith),
      lt-ltb (a + 1) 0x34 (omega arith),
      ne_eqb ((a + 1) % 2) 0 (λ z. omega arith),
      same_word u r.measured a e h,
    )
