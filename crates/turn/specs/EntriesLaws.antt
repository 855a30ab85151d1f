-- CHIP P1, P2, P5, P6 and W1 as they are read: what an entry says, which record is the last, that a wiring record after another is 2, and
-- that entries lie one after the other from the first byte on, as many as fit, and leave every byte after them. Assumes nothing.
use Rattle.std.specs.Prelude.{◌≡◌, refl, Bool, true, false, cond, List, [], ◌∷◌, ◌++◌, ℕ, ◌*◌, ◌/◌, eqb, length, take, drop}
use Rattle.std.proofs.Common.{ap, subst, arith}
use Rattle.std.proofs.Math.Seq.{take-append_seam, drop-append_seam}
use Rattle.constants.specs.declared.refusal.Refusal.{Refusal}
use Rattle.events.specs.declared.Counts.{Counts}
use Rattle.events.specs.declared.Event.TheVariants.{Wires}
use Rattle.records.specs.declared.Read.TheVariants.{Refused, Cut}
use Rattle.chip.specs.declared.Chip.{Chip}
use Rattle.chip.specs.Answer.{Stepped}
use Rattle.turn.specs.declared.Entry.{Entry}
use Rattle.turn.specs.Turn.{entry_of, acted, turned}
use Rattle.turn.specs.Entries.{entry_bytes, bytes_of, entered}

-- ── an entry ──
pub entry_says : (s : Stepped) → ((entry_of s).number ≡ s.number) × ((entry_of s).flag ≡ cond s.flag 1 0) × ((entry_of s).byte ≡ s.byte)
entry_says s = (refl, refl, refl)

pub entry_five : (e : Entry) → entry_bytes e ≡ e.number ∷ e.flag ∷ e.byte ∷ e.stat ∷ e.pins ∷ []
entry_five e = refl

-- ── a record ──
pub late_wiring : (n : ℕ) (k : Counts) (c : Chip) → acted false (Wires n) k c ≡ record { chip = c; number = 2; flag = false; byte = 0 }
unfolding acted
late_wiring n k c = refl

pub refused_first : (o : Bool) (c : Chip) (rest : List ℕ) (why : Refusal) (next : ℕ) → c.setup.part ≡ 0
    → (turned o c rest (Refused why next)).last ≡ true
refused_first o c rest why next z = ap (λ (p : ℕ). eqb p 0) z

-- a record that is cut short is 9 and the last, and leaves the chip
pub cut_last : (o : Bool) (c : Chip) (rest : List ℕ)
    → ((turned o c rest Cut).entry.number ≡ 9) × ((turned o c rest Cut).last ≡ true) × ((turned o c rest Cut).chip ≡ c)
cut_last o c rest = (refl, refl, refl)

-- ── the entries in a buffer ──
bytes_many : (es : List Entry) → length (bytes_of es) ≡ 5 * length es
bytes_many [] = refl
bytes_many (e ∷ es) = omega (arith, bytes_many es)

module _ (old : List ℕ) (es : List Entry) where
  -- those that fit
  abbrev fitting : List Entry
  fitting = take (length old / 5) es

  pub from_the_first : take (5 * length fitting) (entered old es) ≡ bytes_of fitting
  from_the_first =
      subst (λ n. take n (bytes_of fitting ++ drop (5 * length fitting) old) ≡ bytes_of fitting) (bytes_many fitting)
      (take-append_seam (bytes_of fitting) (drop (5 * length fitting) old))

  pub later_kept : drop (5 * length fitting) (entered old es) ≡ drop (5 * length fitting) old
  later_kept =
      subst (λ n. drop n (bytes_of fitting ++ drop (5 * length fitting) old) ≡ drop (5 * length fitting) old) (bytes_many fitting)
      (drop-append_seam (bytes_of fitting) (drop (5 * length fitting) old))
