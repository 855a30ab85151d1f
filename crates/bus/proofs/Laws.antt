-- What the bus owes its users, of the definitions of Bus: with CRC on a store comes only with its CRC; a pair's two bytes are of one value;
-- with CRC on every data byte given is followed by its CRC. Assumes nothing.
use Rattle.std.specs.Prelude.{◌≡◌, refl, Bool, true, false, cond, List, [], ◌∷◌, ℕ, ◌+◌, ◌*◌, ◌<◌, eqb, Some, None}
use Rattle.std.proofs.Common.{sym, ap, ◌∙◌, arith, eq-eqb, ne_eqb, eqb-true}
use Rattle.crc8.specs.Crc.{crc, byte_on}
use Rattle.crc8.proofs.DivisionLaws.{crc_is}
use Rattle.events.specs.declared.Setup.{Setup}
use Rattle.bus.specs.declared.Phase.{Phase}
use Rattle.bus.specs.declared.Phase.TheVariants.{Idle, Address, Pointing, Writing, Checking, Reading, Summing}
use Rattle.bus.specs.declared.Line.{Line}
use Rattle.bus.specs.declared.Owed.{Owed}
use Rattle.bus.specs.declared.Bus.{Bus}
use Rattle.bus.specs.declared.Outed.{Outed}
use Rattle.bus.specs.Bus.{Store, At}
use Rattle.bus.specs.Bus.{line_of, grown, started, goes, refuses, stores, addressed, fed, checked, out_in, outed, is_high, after_data}
use Rattle.bus.specs.Bus.{after_sum, taken, byte_given, keeps, owing, wanted_in, wanted, takes}

-- ── the stores of bytes that the host sends one after the other ──
abbrev pub sends : Setup → Line → List ℕ → List Store
sends u l [] = []
sends u l (b ∷ bs) = (outed u l b).store ∷ sends u (outed u l b).line bs

-- the CRC decides whether the byte that waits is stored
decided : (v s a b : ℕ) → (checked v s a b).store ≡ cond (eqb b s) (At a v) None
unfolding checked
decided v s a b = by (eqb b s)
  where
    by : (t : Bool) → (cond t (stores a v) (refuses a)).store ≡ cond t (At a v) None
    by true = refl
    by false = refl

-- the address byte of a write
called : (u : Setup) (a : ℕ) → addressed u a (u.address * 2) ≡ goes (Pointing (byte_on 0 (u.address * 2))) a
unfolding addressed
called u a = simp (eq-eqb (u.address * 2) (u.address * 2) refl)

fed_on : (u : Setup) (s a b : ℕ) → u.crc ≡ true → fed u s a b ≡ goes (Checking b (byte_on s b)) a
unfolding fed
fed_on u s a b on = simp on

-- with CRC on the first data byte of a write is stored just where the byte after it is the CRC of address byte, pointer and data
pub first_write : (u : Setup) (l : Line) (p d c : ℕ) → u.crc ≡ true → u.address < 128 → p < 256 → d < 256
    → sends u (started l) (u.address * 2 ∷ p ∷ d ∷ c ∷ [])
    ≡ (None ∷ None ∷ None ∷ cond (eqb c (crc (u.address * 2 ∷ p ∷ d ∷ []))) (At p d) None ∷ [])
unfolding outed
first_write u l p d c on h hp hd =
    simp (
      called u l.pointer,
      fed_on u (byte_on (byte_on 0 (u.address * 2)) p) p d on,
      crc_is (u.address * 2 ∷ p ∷ d ∷ []) (omega arith, (hp, (hd, tt))),
      decided,
    )

-- and a later one where it is the CRC of the data alone
pub later_write : (u : Setup) (a d c : ℕ) → u.crc ≡ true → d < 256
    → sends u (line_of (Writing 0) a) (d ∷ c ∷ []) ≡ (None ∷ cond (eqb c (crc (d ∷ []))) (At a d) None ∷ [])
unfolding outed
later_write u a d c on hd = simp (fed_on u 0 a d on, crc_is (d ∷ []) (hd, tt), decided)

-- a store leaves the bus where a later byte is expected, with the pointer grown by one
pub after_store : (v s a : ℕ) → (checked v s a s).line ≡ line_of (Writing 0) (grown a)
unfolding checked
after_store v s a = simp (eq-eqb s s refl)

-- a wrong CRC: not acknowledged, idle, the pointer unmoved, no store
pub wrong_crc : (u : Setup) (v s a b : ℕ) → eqb b s ≡ false → outed u (line_of (Checking v s) a) b ≡ refuses a
unfolding outed checked
wrong_crc u v s a b e = simp e

no_store : (u : Setup) (a b : ℕ) → (addressed u a b).store ≡ None
unfolding addressed
no_store u a b = by (eqb b (u.address * 2)) (eqb b (u.address * 2 + 1))
  where
    by : (x y : Bool) → (cond x (goes (Pointing (byte_on 0 b)) a) (cond y (goes (Reading (byte_on 0 b) false) a) (refuses a))).store
        ≡ None
    by true y = refl
    by false true = refl
    by false false = refl

value_in : Store → ℕ
value_in None = 0
value_in (Some w) = w.value

at_its_crc : (w s a b a' v : ℕ) (t : Bool) → eqb b s ≡ t → cond t (At a w) None ≡ At a' v → Checking w s ≡ Checking v b
unfolding value_in
at_its_crc w s a b a' v true e h = let q : b ≡ s = eqb-true b s e in let r : w ≡ v = ap value_in h in cc
at_its_crc w s a b a' v false e h = cc

-- whatever came before: with CRC on nothing is stored but a byte that waits, at its CRC
pub store_only : (u : Setup) (p : Phase) (a b a' v : ℕ) → u.crc ≡ true → (out_in u p a b).store ≡ At a' v → p ≡ Checking v b
store_only u Idle a b a' v on h = cc
store_only u Address a b a' v on h = let q : (addressed u a b).store ≡ None = no_store u a b in cc
store_only u (Pointing s) a b a' v on h = cc
store_only u (Writing s) a b a' v on h =
    let q : (goes (Checking b (byte_on s b)) a).store ≡ At a' v = sym (ap (λ (o : Outed). o.store) (fed_on u s a b on)) ∙ h in cc
store_only u (Checking w s) a b a' v on h = at_its_crc w s a b a' v (eqb b s) refl (sym (decided w s a b) ∙ h)
store_only u (Reading s k) a b a' v on h = cc
store_only u (Summing k) a b a' v on h = cc

-- ── reads ──
abbrev reading : ℕ → Bool → ℕ → Owed → Bus
reading s k a o = record { line = line_of (Reading s k) a; owed = o }

-- IN that asks for no register goes by what is owed alone, whatever it is told
pub told_nothing : (u : Setup) (here low : ℕ) (nack : Bool) (p : Phase) (a : ℕ) (o : Owed) → wanted_in p a ≡ None
    → takes u here low nack (record { line = line_of p a; owed = o }) ≡ takes u 0 0 nack (record { line = line_of p a; owed = o })
unfolding taken byte_given owing
told_nothing u here low nack Idle a o e = refl
told_nothing u here low nack Address a o e = refl
told_nothing u here low nack (Pointing s) a o e = refl
told_nothing u here low nack (Writing s) a o e = refl
told_nothing u here low nack (Checking v s) a o e = refl
told_nothing u here low nack (Reading s k) a o e = cc
told_nothing u here low nack (Summing k) a o e = refl

-- the same of any bus; and one that asks for a register asks for the one at its pointer
pub wants_nothing : (u : Setup) (here low : ℕ) (nack : Bool) (b : Bus) → wanted b ≡ None
    → takes u here low nack b ≡ takes u 0 0 nack b
unfolding wanted
wants_nothing u here low nack b e = told_nothing u here low nack b.line.phase b.line.pointer b.owed e

wants_in : (p : Phase) (a a' : ℕ) → wanted_in p a ≡ Some a' → a ≡ a'
wants_in Idle a a' e = cc
wants_in Address a a' e = cc
wants_in (Pointing s) a a' e = cc
wants_in (Writing s) a a' e = cc
wants_in (Checking v s) a a' e = cc
wants_in (Reading s k) a a' e = cc
wants_in (Summing k) a a' e = cc

pub wants_at : (b : Bus) (a : ℕ) → wanted b ≡ Some a → b.line.pointer ≡ a
unfolding wanted
wants_at b a e = wants_in b.line.phase b.line.pointer a e

-- CRC off: the byte after a pair's high byte is the low byte of the same value, whatever the register holds by then
pub pair_plain : (u : Setup) (s a here low here' low' : ℕ) (k n : Bool) (o : Owed) → u.crc ≡ false → is_high a ≡ true
    → (takes u here' low' n (takes u here low false (reading s k a o)).bus).byte ≡ low
unfolding taken byte_given owing after_data keeps
pair_plain u s a here low here' low' k n o off high = simp (off, high)

-- CRC on: so is the byte after the high byte's CRC
pub pair_checked : (u : Setup) (s a here low h₁ l₁ h₂ l₂ : ℕ) (k n : Bool) (o : Owed) → u.crc ≡ true → is_high a ≡ true
    → (takes u h₂ l₂ n (takes u h₁ l₁ false (takes u here low false (reading s k a o)).bus).bus).byte ≡ low
unfolding taken byte_given owing after_data after_sum keeps
pair_checked u s a here low h₁ l₁ h₂ l₂ k n o on high = simp (on, high)

-- CRC on: every data byte given and acknowledged is followed by its CRC, on the CRC that the read began with
pub followed : (u : Setup) (s a here low h₁ l₁ : ℕ) (k n : Bool) (o : Owed) → u.crc ≡ true
    → (takes u h₁ l₁ n (takes u here low false (reading s k a o)).bus).byte ≡ byte_on s (takes u here low false (reading s k a o)).byte
unfolding taken byte_given owing after_data keeps
followed u s a here low h₁ l₁ k n o on = simp on

-- which is the read address byte's for the first data byte since START ..
pub first_read : (u : Setup) (l : Line)
    → (outed u (started l) (u.address * 2 + 1)).line ≡ line_of (Reading (byte_on 0 (u.address * 2 + 1)) false) l.pointer
unfolding outed addressed
first_read u l = simp (ne_eqb (u.address * 2 + 1) (u.address * 2) (omega arith), eq-eqb (u.address * 2 + 1) (u.address * 2 + 1) refl)

-- .. and 0 for each later one
pub later_read : (u : Setup) (k : Bool) (a : ℕ) → taken u (line_of (Summing k) a) false ≡ line_of (Reading 0 k) a
unfolding taken after_sum
later_read u k a = refl

-- a host that does not acknowledge idles the bus; OUT while reading is not acknowledged and idles it
pub nack_idles : (u : Setup) (s a : ℕ) (k : Bool) → taken u (line_of (Reading s k) a) true ≡ line_of Idle (grown a)
unfolding taken after_data
nack_idles u s a k = refl

pub out_while_reading : (u : Setup) (s a b : ℕ) (k : Bool) → outed u (line_of (Reading s k) a) b ≡ refuses a
unfolding outed
out_while_reading u s a b k = refl
