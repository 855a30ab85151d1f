-- The loop of the plain engine, beside the base engine's: what stands at its head, and what the C call makes of it. Assumes nothing.
use mathlib.Core.Path.{◌≡◌, refl, sym, ap, subst, ◌∙◌}
use mathlib.Core.Bool.{Bool, true, false}
use mathlib.Core.List.{List}
use Prim.Native.Nat.{ℕ, ◌+◌, ◌-◌, ◌*◌, ◌/◌, ◌^◌, ◌≤◌, ◌<◌}
use native.Mathlib.Omega.{arith}
use lib.Dec.{leb}
use lib.IntN.{pos, negsuc}
use lib.ListN.{length, take, drop}
use lib.Seq.{take-add}
use mir.Syntax.{w64}
use mir.Val.{to_z}
use mir.Facts.{to_z_pos}
use borrow.Author.Tests.{le-leb, lt-leb}
use Rattle.chip.specs.declared.Chip.{Chip}
use Rattle.stream_run.specs.declared.Left.{Left}
use Rattle.turn.specs.Turn.{none, Turn, turn_of}
use Rattle.turn.specs.Entries.{noted, entered, entries, entries_from}
use Rattle.stream_run.specs.Stream.{Ran}
use Rattle.chip.proofs.Calm.{ship_calm}
use Rattle.turn.specs.Frames.{frames_of}
use Rattle.turn.specs.CountedLaws.{entries_count}
use Rattle.turn.proofs.Runs.{rest_is, entered_all}
use Rattle.stream_run.proofs.Loop.{Going, going_none, going_end, going_stop, going_place, going_more}
use Rattle.turn.specs.declared.Turned.{Turned}
use Rattle.turn.specs.TurnedLaws.{as_turn}
use Rattle.plain_back.specs.Said.{most}
use Rattle.plain.specs.Plain.{plain_turn, plain_entries, Noted, PlainPlayed}
use Rattle.plain.specs.AsideLaws.{unrun, forgetful}
use Rattle.plain.proofs.SameLaws.{plain_turn_lem, plain_entries_lem, Lent, lent_none, lent_runs, lent_next}

-- the base engine's chip stands beside the one that is kept
pub record Playing (s old out : List ℕ) (o : Bool) (chip : Chip) (at n : ℕ) : Type 0 where
  pub base : Chip
  pub kept : chip ≡ unrun base
  pub going : Going false none s old out o base at n
  pub lent : Lent (take at s) o base n

pub playing_none : {c : Chip} (s old : List ℕ) → c ≡ none → Playing s old old false c 0 0
playing_none s old h = record { base = none; kept = h; going = going_none false none s old (ship_calm none.setup); lent = lent_none }

noted_as : {s old new : List ℕ} {left : Left} → Ran false none s old left new → Noted s old new
unfolding entries_from entries
noted_as {s} {old} r = r.wrote ∙ ap (entered old) (sym (plain_entries_lem s))

module _ (s old out : List ℕ) (o : Bool) (chip : Chip) (at n : ℕ) (g : Playing s old out o chip at n) where
  pub playing_end : length s ≤ at → Noted s old out
  playing_end h = noted_as (going_end false none s old out o g.base at n g.going h)

  module _ (h : at < length s) (t : Turned) (q : as_turn t ≡ plain_turn (take at s) o chip (take (length s - at) (drop at s))) (new : List ℕ) (w : new ≡ noted out n t.entry) where
    abbrev b : Turn
    b = turn_of o g.base (drop at s)

    b_is : b ≡ turn_of o g.base (take (length s - at) (drop at s))
    b_is = ap (turn_of o g.base) (sym (rest_is s at))

    turn_is : as_turn t ≡ forgetful b
    turn_is =
        q ∙ ap (λ (c : Chip). plain_turn (take at s) o c (take (length s - at) (drop at s))) g.kept ∙ ap (plain_turn (take at s) o (unrun g.base)) (rest_is s at)
        ∙ plain_turn_lem (take at s) o g.base (drop at s) (lent_runs (take at s) o g.base n g.lent) g.lent.calm

    wrote : new ≡ noted out n b.entry
    wrote = w ∙ ap (λ (x : Turn). noted out n x.entry) turn_is

    last_is : t.last ≡ b.last
    last_is = ap (λ (x : Turn). x.last) turn_is

    pub playing_last : t.last ≡ true → Noted s old new
    playing_last e =
        noted_as (going_end false none s old new b.fresh b.chip (length s) (n + 1) (going_stop false none s old out o g.base at n g.going h b b_is new wrote (sym last_is ∙ e)) (omega arith))

    pub playing_place : t.last ≡ false → (4 ≤ t.next) × (at + t.next ≤ length s)
    playing_place e =
        subst (λ (x : Turn). (4 ≤ x.next) × (at + x.next ≤ length s)) (sym turn_is) (going_place false none s old out o g.base at n g.going h b b_is new wrote (sym last_is ∙ e))

    pub playing_more : t.last ≡ false → Playing s old new t.fresh t.chip (at + t.next) (n + 1)
    playing_more e =
        subst (λ (x : Turn). Playing s old new x.fresh x.chip (at + x.next) (n + 1)) (sym turn_is)
        record {
          base = b.chip;
          kept = refl;
          going = going_more false none s old out o g.base at n g.going h b b_is new wrote (sym last_is ∙ e);
          lent = subst (λ (p : List ℕ). Lent p b.fresh b.chip (n + 1)) (sym (take-add at b.next s)) (lent_next (take at s) o g.base n g.lent (drop at s) (sym last_is ∙ e));
        }

-- ── the C call: too long, too little room, or all of it ──
pub played_long : (s old : List ℕ) → most < length s → PlainPlayed s old (negsuc 23) old
played_long s old h = let l : leb (length s) most ≡ false = lt-leb (length s) most h in record { answer = simp l; contents = simp l }

module _ (s old : List ℕ) (n : ℕ) (h : length s ≤ most) (c : n ≡ frames_of s) where
  count_is : n ≡ length (plain_entries s)
  count_is = c ∙ sym (entries_count s) ∙ ap length (sym (plain_entries_lem s))

  long : leb (length s) most ≡ true
  long = le-leb (length s) most h

  pub played_short : length old / 5 < n → PlainPlayed s old (negsuc 4) old
  played_short r =
      let t : leb (5 * length (plain_entries s)) (length old) ≡ false = lt-leb (5 * length (plain_entries s)) (length old) (omega (arith, count_is)) in
      record { answer = simp (long, t); contents = simp (long, t) }

  pub played_all : (new : List ℕ) → n ≤ length old / 5 → length old < 2 ^ 63 → Noted s old new → PlainPlayed s old (to_z w64 n) new
  played_all new r b w =
      let t : leb (5 * length (plain_entries s)) (length old) ≡ true = le-leb (5 * length (plain_entries s)) (length old) (omega (arith, count_is)) in
      record { answer = simp (long, t) (to_z_pos w64 (omega arith) ∙ ap pos count_is); contents = simp (long, t) (w ∙ entered_all old (plain_entries s) (omega (arith, count_is))) }
