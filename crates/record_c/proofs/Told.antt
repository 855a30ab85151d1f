-- What the two calls answer, by what their callees answered. Assumes nothing.
use mathlib.Core.Path.{◌≡◌, refl, sym, ap, ◌∙◌, subst}
use mathlib.Core.Bool.{Bool, true, false, cond}
use mathlib.Core.List.{List}
use Prim.Native.Nat.{ℕ, ◌-◌, ◌^◌, ◌<◌, ◌≤◌}
use native.Mathlib.Omega.{arith}
use lib.Dec.{eqb, leb}
use lib.IntN.{ℤ, pos, negsuc, neg_ℤ}
use lib.ListN.{length, take, drop}
use borrow.Author.Tests.{le-leb, lt-leb, leb-true}
use Rattle.constants.specs.Refusal.{number_of}
use Rattle.constants.specs.declared.refusal.Refusal.{Refusal}
use Rattle.constants.specs.Answer.{gives, refuses}
use Rattle.events.specs.declared.Counts.{Counts}
use Rattle.events.specs.declared.Event.{Event}
use Rattle.records.specs.Record.{read_of, counts_in}
use Rattle.records.specs.Record.{Payload}
use Rattle.std.specs.Prelude.{Ok, Err}
use Rattle.records.specs.declared.Read.{Read}
use Rattle.records.specs.declared.Read.TheVariants.{Record, Refused, Cut}
use Rattle.writer.specs.Write.{record_for, refusal_for, Puts}
use Rattle.writer.specs.Write.{Wrote}
use Rattle.record_event.specs.Values.{part_by, event_by, counts_by}
use Rattle.record_values.specs.Named.{laid, named, Names}
use Rattle.record_c.specs.Calls.{meant_by, written_by, wrote_answer, CountedFew, record_said, Records, named_read, named_said}

-- ── a record written ──
few_by : (n : ℕ) (number room : ℕ) (t u : Bool) → leb n room ≡ u → room < 2 ^ 63 → CountedFew (cond t (cond u (gives n) (refuses 5)) (refuses number))
few_by n number room true true e h = omega (arith, leb-true n room e)
few_by n number room true false e h = tt
few_by n number room false u e h = tt

pub few : (number : ℕ) (bytes old : List ℕ) (r : Wrote) (new : List ℕ) → length old < 2 ^ 63 → Puts number bytes old r new → CountedFew r
few number bytes old r new h w = subst CountedFew (sym w.answer) (few_by (length bytes) number (length old) (eqb number 0) (leb (length bytes) (length old)) refl h)

module _ (number : ℕ) (bytes old : List ℕ) (r : Wrote) (new : List ℕ) (w : Puts number bytes old r new) where
  puts_by : (t u : Bool) → leb (length bytes) (length old) ≡ u → r ≡ cond t (cond u (gives (length bytes)) (refuses 5)) (refuses number)
      → new ≡ cond t (cond u (laid bytes old) old) old → Records (cond t (gives bytes) (refuses number)) old (wrote_answer r) new
  puts_by true true e a c = record { answer = ap wrote_answer a ∙ sym (ap (λ (u : Bool). cond u (pos (length bytes)) (negsuc 4)) e); contents = c ∙ sym (ap (λ (u : Bool). cond u (laid bytes old) old) e) }
  puts_by true false e a c = record { answer = ap wrote_answer a ∙ sym (ap (λ (u : Bool). cond u (pos (length bytes)) (negsuc 4)) e); contents = c ∙ sym (ap (λ (u : Bool). cond u (laid bytes old) old) e) }
  puts_by false u e a c = record { answer = ap wrote_answer a; contents = c }

  puts_records : Records (cond (eqb number 0) (gives bytes) (refuses number)) old (wrote_answer r) new
  puts_records = puts_by (eqb number 0) (leb (length bytes) (length old)) refl w.answer w.contents

module _ (kind part : ℕ) (vs : List ℤ) (x : Payload) (q : x ≡ event_by kind part vs) (old : List ℕ) where
  pub record_unfit : (n : Refusal) → x ≡ Err n → (z : ℤ) → z ≡ neg_ℤ (pos (number_of n)) → Records (record_said kind part vs) old z old
  unfolding record_said
  record_unfit n w z e = subst (λ (x : Payload). Records (meant_by (part_by part) vs x) old z old) (sym w ∙ q) (record { answer = e; contents = refl })

  pub record_whole : (e : Event) → x ≡ Ok e → (k : Counts) → k ≡ counts_by e vs → (p : ℕ) → p ≡ part_by part → (r : Wrote) (new : List ℕ) → Puts (refusal_for e k p) (record_for e k) old r new
      → (z : ℤ) → z ≡ wrote_answer r → Records (record_said kind part vs) old z new
  unfolding record_said
  record_whole e w k ek p ep r new u z ez =
      subst (λ (x : Payload). Records (meant_by (part_by part) vs x) old z new) (sym w ∙ q)
      (subst (λ (k : Counts). Records (written_by (part_by part) e k) old z new) ek
      (subst (λ (p : ℕ). Records (written_by p e k) old z new) ep
      (subst (λ (z : ℤ). Records (written_by p e k) old z new) (sym ez) (puts_records (refusal_for e k p) (record_for e k) old r new u))))

-- ── a record named ──
module _ (part : ℕ) (r : List ℕ) (oldkind : ℕ) (old : List ℤ) where
  pub named_far : 3 < part → Names (named_said part r) oldkind old (negsuc 0) oldkind old
  unfolding named_said
  named_far h = let t : leb part 3 ≡ false = lt-leb part 3 h in record { answer = simp t; kind = simp t; contents = simp t }

  module _ (h : part ≤ 3) (x : Read) (q : x ≡ read_of part r) where
    found : {z : ℤ} {newkind : ℕ} {new : List ℤ} (y : Read) → x ≡ y → Names (named_read r y) oldkind old z newkind new → Names (named_said part r) oldkind old z newkind new
    unfolding named_said
    found {z} {newkind} {new} y w a =
        subst (λ (t : Bool). Names (cond t (named_read r (read_of part r)) (refuses 1)) oldkind old z newkind new) (sym (le-leb part 3 h))
        (subst (λ (y : Read). Names (named_read r y) oldkind old z newkind new) (sym w ∙ q) a)

    pub named_cut : x ≡ Cut → Names (named_said part r) oldkind old (negsuc 8) oldkind old
    named_cut w = found Cut w (record { answer = refl; kind = refl; contents = refl })

    pub named_refused : (n : Refusal) (next : ℕ) → x ≡ Refused n next → (z : ℤ) → z ≡ neg_ℤ (pos (number_of n)) → Names (named_said part r) oldkind old z oldkind old
    named_refused n next w z e = found (Refused n next) w (record { answer = e; kind = refl; contents = refl })

    pub named_read_lem : (e : Event) (next : ℕ) → x ≡ Record e next → (k : Counts) → k ≡ counts_in e (take (next - 4) (drop 4 r)) → (y z : ℤ) → y ≡ z → (newkind : ℕ) (new : List ℤ)
        → Names (gives (named e k)) oldkind old z newkind new → Names (named_said part r) oldkind old y newkind new
    named_read_lem e next w k ek y z ey newkind new a =
        found (Record e next) w
        (subst (λ (k : Counts). Names (gives (named e k)) oldkind old y newkind new) ek (subst (λ (y : ℤ). Names (gives (named e k)) oldkind old y newkind new) (sym ey) a))
