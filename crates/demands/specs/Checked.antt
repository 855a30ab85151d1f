-- CHIP B6 to B8 over the whole chip: with CRC on a register changes only when the CRC of its byte is accepted. Of any chip in which
-- the outside level 1 and SYS_STAT 0 do not stand together, as they never do from power-up (History.calm_is); after a store the level is
-- looked at. Assumes nothing.
use Rattle.std.specs.Prelude.{◌≡◌, refl, Bool, true, false, cond, List, [], ◌∷◌, ℕ, ◌*◌, ◌<◌, eqb}
use Rattle.std.proofs.Common.{sym, ap, ◌∙◌, arith, eq-eqb}
use Rattle.crc8.specs.Crc.{crc, byte_on}
use Rattle.crc8.proofs.DivisionLaws.{crc_is}
use Rattle.events.specs.declared.BusEvent.TheVariants.{Start, Out}
use Rattle.events.specs.Event.{Event, OnBus, fits}
use Rattle.bus.specs.declared.Line.{Line}
use Rattle.bus.specs.declared.Outed.{Outed}
use Rattle.bus.specs.declared.Phase.{Phase}
use Rattle.bus.specs.declared.Phase.TheVariants.{Idle, Address, Pointing, Writing, Checking}
use Rattle.bus.specs.Bus.{addressed, fed, checked, line_of, outed, grown, goes, refuses, stores}
use Rattle.bus.proofs.Laws.{wrong_crc}
use Rattle.chip.specs.declared.Chip.{Chip}
use Rattle.chip.specs.Chip.{answered, line_moved, stored_at, stored, sent, watched, settled, stepped, next}
use Rattle.chip.specs.Calm.{Calmed}
use Rattle.chip.proofs.Calm.{calm_watched, settles}
use Rattle.chip.proofs.MovesLaws.{normal_is}

-- events as they come, oldest first
abbrev pub ran : Chip → List Event → Chip
ran c [] = c
ran c (e ∷ es) = ran (next e c) es

-- a wrong CRC: not acknowledged, the bus idle, the pointer unmoved, and nothing else
pub wrong : (c : Chip) (v s a b : ℕ) → Calmed c → c.normal ≡ true → c.bus.line ≡ line_of (Checking v s) a → eqb b s ≡ false
    → stepped (OnBus (Out b)) c ≡ answered 1 (line_moved (line_of Idle a) c)
unfolding fits
wrong c v s a b m on l h =
    normal_is (OnBus (Out b)) c refl on
    ∙ ap (λ o. settled (sent o c)) (ap (λ l. outed c.setup l b) l ∙ wrong_crc c.setup v s a b h)
    ∙ settles (answered 1 (line_moved (line_of Idle a) c)) m

-- ── a whole frame ──
-- an OUT on a chip with this line, by what the bus makes of it
pub one_out : (c : Chip) (l : Line) (b : ℕ) (o : Outed) → c.normal ≡ true → outed c.setup l b ≡ o
    → next (OnBus (Out b)) (line_moved l c) ≡ watched (stored o.line o.store (line_moved l c))
unfolding fits
one_out c l b o on e =
    ap (λ s. s.chip) (normal_is (OnBus (Out b)) (line_moved l c) refl on)
    ∙ ap (λ o. watched (stored o.line o.store (line_moved l c))) e

-- one that stores nothing
pub one_goes : (c : Chip) (l : Line) (b : ℕ) (p : Phase) (a : ℕ) → Calmed c → c.normal ≡ true → outed c.setup l b ≡ goes p a
    → next (OnBus (Out b)) (line_moved l c) ≡ line_moved (line_of p a) c
one_goes c l b p a m on e = one_out c l b (goes p a) on e ∙ calm_watched (line_moved (line_of p a) c) m

pub one_start : (c : Chip) → Calmed c → c.normal ≡ true → next (OnBus Start) c ≡ line_moved (line_of Address c.bus.line.pointer) c
unfolding fits
one_start c m on =
    ap (λ s. s.chip) (normal_is (OnBus Start) c refl on) ∙ calm_watched (line_moved (line_of Address c.bus.line.pointer) c) m

own : (c : Chip) (a : ℕ)
    → outed c.setup (line_of Address a) (c.setup.address * 2) ≡ goes (Pointing (byte_on 0 (c.setup.address * 2))) a
unfolding outed addressed
own c a = rw (eq-eqb (c.setup.address * 2) (c.setup.address * 2) refl)

feeds : (c : Chip) (s a b : ℕ) → c.setup.crc ≡ true → outed c.setup (line_of (Writing s) a) b ≡ goes (Checking b (byte_on s b)) a
unfolding outed fed
feeds c s a b k = rw k

-- the CRC byte decides: the byte that waits is stored, or nothing but the bus has moved
decides : (c : Chip) (v s a b : ℕ) → Calmed c → c.normal ≡ true
    → next (OnBus (Out b)) (line_moved (line_of (Checking v s) a) c)
    ≡ cond (eqb b s) (watched (stored_at (line_of (Writing 0) (grown a)) a v c)) (line_moved (line_of Idle a) c)
unfolding outed checked stored_at
decides c v s a b m on = one_out c (line_of (Checking v s) a) b (cond (eqb b s) (stores a v) (refuses a)) on refl ∙ by (eqb b s)
  where
    by : (t : Bool)
        → watched
        (stored (cond t (stores a v) (refuses a)).line (cond t (stores a v) (refuses a)).store (line_moved (line_of (Checking v s) a) c))
        ≡ cond t (watched (stored_at (line_of (Writing 0) (grown a)) a v c)) (line_moved (line_of Idle a) c)
    by true = refl
    by false = calm_watched (line_moved (line_of Idle a) c) m

-- CRC off: the register changes at the data byte
plain_feeds : (c : Chip) (s a b : ℕ) → c.setup.crc ≡ false → outed c.setup (line_of (Writing s) a) b ≡ stores a b
unfolding outed fed
plain_feeds c s a b k = rw k

pub plain_frame : (c : Chip) (p d : ℕ) → Calmed c → c.setup.crc ≡ false → c.normal ≡ true
    → ran c (OnBus Start ∷ OnBus (Out (c.setup.address * 2)) ∷ OnBus (Out p) ∷ OnBus (Out d) ∷ [])
    ≡ watched (stored_at (line_of (Writing 0) (grown p)) p d c)
unfolding outed stored_at
plain_frame c p d m k on =
    ap (λ q. ran q (OnBus (Out w) ∷ OnBus (Out p) ∷ OnBus (Out d) ∷ [])) (one_start c m on)
    ∙ ap (λ q. ran q (OnBus (Out p) ∷ OnBus (Out d) ∷ [])) (one_goes c (line_of Address a) w (Pointing (byte_on 0 w)) a m on (own c a))
    ∙ ap (next (OnBus (Out d))) (one_goes c (line_of (Pointing (byte_on 0 w)) a) p (Writing (byte_on (byte_on 0 w) p)) p m on refl)
    ∙ one_out c (line_of (Writing (byte_on (byte_on 0 w) p)) p) d (stores p d) on (plain_feeds c (byte_on (byte_on 0 w) p) p d k)
  where
    w : ℕ
    w = c.setup.address * 2

    a : ℕ
    a = c.bus.line.pointer

-- first data byte of a write, to any chip in NORMAL: it is stored just where the byte after it is the CRC of address byte, pointer and data
pub first_frame : (c : Chip) (p d x : ℕ) → Calmed c → c.setup.crc ≡ true → c.normal ≡ true → c.setup.address < 128 → p < 256 → d < 256
    → ran c (OnBus Start ∷ OnBus (Out (c.setup.address * 2)) ∷ OnBus (Out p) ∷ OnBus (Out d) ∷ OnBus (Out x) ∷ [])
    ≡ cond (eqb x (crc (c.setup.address * 2 ∷ p ∷ d ∷ []))) (watched (stored_at (line_of (Writing 0) (grown p)) p d c))
    (line_moved (line_of Idle p) c)
unfolding outed
first_frame c p d x m k on ha hp hd =
    ap (λ q. ran q (OnBus (Out w) ∷ OnBus (Out p) ∷ OnBus (Out d) ∷ OnBus (Out x) ∷ [])) (one_start c m on)
    ∙ ap (λ q. ran q (OnBus (Out p) ∷ OnBus (Out d) ∷ OnBus (Out x) ∷ []))
    (one_goes c (line_of Address a) w (Pointing (byte_on 0 w)) a m on (own c a))
    ∙ ap (λ q. ran q (OnBus (Out d) ∷ OnBus (Out x) ∷ []))
    (one_goes c (line_of (Pointing (byte_on 0 w)) a) p (Writing (byte_on (byte_on 0 w) p)) p m on refl)
    ∙ ap (next (OnBus (Out x)))
    (one_goes c (line_of (Writing (byte_on (byte_on 0 w) p)) p) d (Checking d (byte_on (byte_on (byte_on 0 w) p) d)) p m on
    (feeds c (byte_on (byte_on 0 w) p) p d k))
    ∙ decides c d (byte_on (byte_on (byte_on 0 w) p) d) p x m on
    ∙ ap (λ s. cond (eqb x s) (watched (stored_at (line_of (Writing 0) (grown p)) p d c)) (line_moved (line_of Idle p) c))
    (sym (crc_is (w ∷ p ∷ d ∷ []) (omega arith, (hp, (hd, tt)))))
  where
    w : ℕ
    w = c.setup.address * 2

    a : ℕ
    a = c.bus.line.pointer

-- a later one, where the bus is after a store: the CRC of the data alone
pub later_frame : (c : Chip) (a d x : ℕ) → Calmed c → c.setup.crc ≡ true → c.normal ≡ true → d < 256
    → ran (line_moved (line_of (Writing 0) a) c) (OnBus (Out d) ∷ OnBus (Out x) ∷ [])
    ≡ cond (eqb x (crc (d ∷ []))) (watched (stored_at (line_of (Writing 0) (grown a)) a d c)) (line_moved (line_of Idle a) c)
later_frame c a d x m k on hd =
    ap (next (OnBus (Out x))) (one_goes c (line_of (Writing 0) a) d (Checking d (byte_on 0 d)) a m on (feeds c 0 a d k))
    ∙ decides c d (byte_on 0 d) a x m on
    ∙ ap (λ s. cond (eqb x s) (watched (stored_at (line_of (Writing 0) (grown a)) a d c)) (line_moved (line_of Idle a) c))
    (sym (crc_is (d ∷ []) (hd, tt)))
