-- CHIP P11: the plain engine's entries are the base engine's, of every stream. Assumes nothing.
use Rattle.std.specs.Prelude.{◌≡◌, ◌≢◌, Bool, true, cond, not, ◌&&◌, ◌||◌, ℕ, zero, suc, ◌+◌, ◌-◌, ◌*◌, ◌≤◌, ◌<◌, min, eqb, leb, ℤ, pos}
use Rattle.std.specs.Prelude.{negsuc, take, drop}
use Rattle.std.proofs.Math.Path.{refl, ap}
use Rattle.std.proofs.Common.{sym, ◌∙◌, true≢false, arith, zero-add, length-append, length-take, drop_at, le-leb, leb-true, ne_eqb}
use Rattle.std.proofs.Math.Bool.{false}
use mathlib.Core.List.{List, [], ◌∷◌, ◌++◌, map, append_assoc, append-nil}
use Rattle.std.proofs.Math.Nat.{min-zero}
use Rattle.std.proofs.Math.ListN.{length}
use Rattle.events.specs.declared.Setup.{Setup as SetupValues}
use Rattle.events.specs.declared.Counts.{Counts}
use Rattle.events.specs.declared.Event.{Event as Coded}
use Rattle.events.specs.declared.Event.TheVariants.{Setup, Por, Boot, Scan, Temp, Count, Sense, Pin, Load, Xready, OnBus, Level, Ticks}
use Rattle.events.specs.declared.Event.TheVariants.{Soak, Wires}
use Rattle.events.specs.Setup.{inputs}
use Rattle.events.specs.Event.{Scan as Scanned, Sense as Sensed, sense_fits, ticks_most, soak_most, ticks_fit, Meant, ticks, meant_of}
use Rattle.events.specs.declared.Fault.{Fault}
use Rattle.events.specs.declared.Fault.TheVariants.{Ov, Uv, Scd, Ocd}
use Rattle.records.specs.declared.Read.{Read}
use Rattle.records.specs.declared.Read.TheVariants.{Record, Refused, Cut}
use Rattle.records.specs.Record.{read_of, counts_beside}
use Rattle.bits.specs.BoolLaws.{and_left, and_right}
use Rattle.records.specs.SoundLaws.{IsSetup, first_setup, Meaning, later_means}
use Rattle.protection.specs.Fault.{Runs}
use Rattle.protection.specs.Streak.{streak}
use Rattle.protection.specs.Fault.{run_of, runs_of}
use Rattle.limits.specs.Rule.{cap}
use Rattle.chip.specs.declared.Chip.{Chip}
use Rattle.chip.specs.Answer.{Stepped}
use Rattle.chip.specs.Chip.{numbered, happened, stepped, ticked, stepped_as, stepped_by}
use Rattle.chip.specs.Calm.{Calmed}
use Rattle.chip.proofs.Calm.{ship_calm}
use Rattle.turn.specs.declared.Entry.{Entry}
use Rattle.turn.specs.Turn.{none, acted, stays_fresh, Turn, turn, turned, turn_of}
use Rattle.turn.specs.Entries.{runs, stands, entries, last_chip, bytes_of}
use Rattle.stream_run.specs.Stream.{Played}
use Rattle.turn.specs.CalmLaws.{turn_calm}
use Rattle.turn.specs.PrefixLaws.{same_frame, turn_inside, turn_past}
use Rattle.demands.specs.Demand.{chip}
use Rattle.demands.proofs.History.{runs_are}
use Rattle.demands.specs.Told.{run_of_lem}
use Rattle.demands.specs.Wired.{same_but_cells}
use Rattle.demands.specs.Streams.{heard}
use Rattle.demands.proofs.Streams.{cells_in, last_chip_lem, histories, shows, to_show, entries_show}
use Rattle.plain_back.specs.Said.{verdicts_after, verdicts_in, streaks_in, most}
use Rattle.plain_back.specs.Walk.{meant_of_lem}
use Rattle.plain.specs.Decision.{ticks_done}
use Rattle.plain.specs.DecisionLaws.{runs_from, scan_same, tick_same, ticks_same}
use Rattle.plain.specs.Plain.{decided, plain_done, plain_turned, plain_turn, plain_runs, plain_entries, PlainPlayed}
use Rattle.plain.specs.AsideLaws.{unrun, unrun_in, forgetful, turned-unrun}

-- ── what the records say is what the base engine's runs hold after them ──
runs_by : (n : Runs) (f : Fault → ℕ) → ((k : Fault) → run_of k n ≡ f k) → n ≡ runs_of f
runs_by n f h = λ i. record { ov = h Ov i; uv = h Uv i; scd = h Scd i; ocd = h Ocd i }

-- by the first record; where it is refused or cut short no chip stands, and nothing is said
abbrev Stands : Read → Bool
Stands (Record e next) = true
Stands (Refused k next) = false
Stands Cut = false

none_stands : (s : List ℕ) (x : Read) → read_of 0 s ≡ x → Stands x ≡ false → last_chip s ≡ none
unfolding last_chip turn_of
none_stands [] x q h = refl
none_stands (b ∷ s) x q h =
    ap (λ (x : Read). cond (turned false none (b ∷ s) x).last (turned false none (b ∷ s) x).chip
    (stands (length s) (turned false none (b ∷ s) x).fresh (turned false none (b ∷ s) x).chip
    (drop (turned false none (b ∷ s) x).next (b ∷ s)))) q
    ∙ by x h
  where
    by : (x : Read) → Stands x ≡ false
        → cond (turned false none (b ∷ s) x).last (turned false none (b ∷ s) x).chip
        (stands (length s) (turned false none (b ∷ s) x).fresh (turned false none (b ∷ s) x).chip
        (drop (turned false none (b ∷ s) x).next (b ∷ s))) ≡ none
    by (Record e next) h = absurd (true≢false h)
    by (Refused k next) h = refl
    by Cut h = refl

none_said : (s : List ℕ) (k : Fault) → last_chip s ≡ none → run_of k (last_chip s).runs ≡ min (cap k) 0
none_said s k h = ap (λ (c : Chip). run_of k c.runs) h ∙ run_of_lem (λ k. 0) k ∙ sym (min-zero (cap k))

first_said : (s : List ℕ) (x : Read) → read_of 0 s ≡ x → (k : Fault)
    → run_of k (last_chip s).runs ≡ min (cap k) (streak (verdicts_after k s x))
first_said s (Record e next) q k = by e q (first_setup s e next q)
  where
    by : (e : Coded) → read_of 0 s ≡ Record e next → IsSetup e
        → run_of k (last_chip s).runs ≡ min (cap k) (streak (verdicts_after k s (Record e next)))
    by (Setup u) q g =
        ap (λ (c : Chip). run_of k c.runs) (last_chip_lem s u next q ∙ same_but_cells (cells_in u next s) u (heard u next s))
        ∙ runs_are u k (heard u next s)
    by Por q g = absurd g
    by Boot q g = absurd g
    by Scan q g = absurd g
    by Temp q g = absurd g
    by (Count n) q g = absurd g
    by (Sense v) q g = absurd g
    by Pin q g = absurd g
    by (Load l) q g = absurd g
    by Xready q g = absurd g
    by (OnBus b) q g = absurd g
    by (Level l) q g = absurd g
    by (Ticks v n) q g = absurd g
    by (Soak v n) q g = absurd g
    by (Wires n) q g = absurd g
first_said s (Refused n next) q k = none_said s k (none_stands s (Refused n next) q refl)
first_said s Cut q k = none_said s k (none_stands s Cut q refl)

pub runs_said : (s : List ℕ) → runs_from (streaks_in s) ≡ (last_chip s).runs
unfolding streaks_in verdicts_in
runs_said s = sym (runs_by (last_chip s).runs (λ k. min (cap k) (streak (verdicts_after k s (read_of 0 s))))
    (first_said s (read_of 0 s) refl))

-- ── one record ──
-- what is read as such an event is read of a part
part_there : (part : ℕ) (rest : List ℕ) (e : Coded) (next : ℕ) → (IsSetup e → ⊥) → read_of part rest ≡ Record e next → part ≢ 0
part_there part rest e next f q h = f (first_setup rest e next (ap (λ (n : ℕ). read_of n rest) (sym h) ∙ q))

-- and fits, so that the chip moves by it as the plain engine has it
acted_scan : (o : Bool) (c : Chip) (k : Counts) → Meaning c.setup Scan k
    → acted o Scan k c ≡ happened (Scanned (take (inputs c.setup) k.of)) c
unfolding acted stepped
acted_scan o c k m =
    let x : List ℕ = take (inputs c.setup) k.of in
    ap (λ (y : Meant). stepped_as y c) (meant_of_lem c.setup Scan k m).0
    ∙ ap (λ (t : Bool). cond t (happened (Scanned x) c) (numbered 3 c)) (meant_of_lem c.setup Scan k m).1

acted_sense : (o : Bool) (c : Chip) (v : ℤ) (k : Counts) → Meaning c.setup (Sense v) k → acted o (Sense v) k c ≡ happened (Sensed v) c
unfolding acted stepped
acted_sense o c v k m =
    ap (λ (y : Meant). stepped_as y c) (meant_of_lem c.setup (Sense v) k m).0
    ∙ ap (λ (t : Bool). cond t (happened (Sensed v) c) (numbered 3 c)) (meant_of_lem c.setup (Sense v) k m).1

record_ticks : (most : ℕ) (v : ℤ) (n : ℕ) (c : Chip) (e : Coded) (k : Counts) → meant_of c.setup e k ≡ ticks most v n
    → ticks_fit most v n ≡ true → stepped_by e k c ≡ ticked n v c
record_ticks most v n c e k q f =
    ap (λ (y : Meant). stepped_as y c) q ∙ ap (λ (t : Bool). cond t (ticked n v c) (numbered 3 c)) f

acted_ticks : (o : Bool) (c : Chip) (v : ℤ) (n : ℕ) (k : Counts) → Meaning c.setup (Ticks v n) k → acted o (Ticks v n) k c ≡ ticked n v c
unfolding acted
acted_ticks o c v n k m =
    record_ticks ticks_most v n c (Ticks v n) k (meant_of_lem c.setup (Ticks v n) k m).0 (meant_of_lem c.setup (Ticks v n) k m).1

acted_soak : (o : Bool) (c : Chip) (v : ℤ) (n : ℕ) (k : Counts) → Meaning c.setup (Soak v n) k → acted o (Soak v n) k c ≡ ticked n v c
unfolding acted
acted_soak o c v n k m =
    record_ticks soak_most v n c (Soak v n) k (meant_of_lem c.setup (Soak v n) k m).0 (meant_of_lem c.setup (Soak v n) k m).1

fit_some : (most : ℕ) (v : ℤ) (n : ℕ) → ticks_fit most v n ≡ true → 1 ≤ n
unfolding ticks_fit
fit_some most v n f = leb-true 1 n (and_right (sense_fits v) (leb 1 n) (and_left (sense_fits v && leb 1 n) (leb n most) f))

module _ (before : List ℕ) (o : Bool) (c : Chip) (rest : List ℕ) (h : runs_from (streaks_in before) ≡ c.runs) (calm : Calmed c) where
  decided_as : (s d : Stepped) (next : ℕ) → c.setup.part ≢ 0 → d ≡ unrun_in s
      → decided o d next ≡ forgetful (turn s (stays_fresh o c s) next false)
  decided_as s d next p q =
      ap (λ (d : Stepped). decided o d next) q
      ∙ ap (λ (b : Bool). turn (unrun_in s) (b || (o && not (eqb s.number 0))) next false) (sym (ne_eqb c.setup.part 0 p))

  ticks_as : (n : ℕ) (v : ℤ) → 1 ≤ n → ticks_done (streaks_in before) v n (unrun c) ≡ unrun_in (ticked n v c)
  ticks_as zero v l = absurd (omega arith)
  ticks_as (suc m) v l = ticks_same (streaks_in before) c h m v calm

  plain_done_lem : (e : Coded) (next : ℕ) → read_of c.setup.part rest ≡ Record e next
      → plain_done before o (unrun c) rest e next ≡ forgetful (turned o c rest (Record e next))
  plain_done_lem (Setup v) next q = turned-unrun o c rest (Setup v) next refl
  plain_done_lem Por next q = turned-unrun o c rest Por next refl
  plain_done_lem Boot next q = turned-unrun o c rest Boot next refl
  plain_done_lem Scan next q =
      let p : c.setup.part ≢ 0 = part_there c.setup.part rest Scan next (λ f. f) q in
      let k : Counts = counts_beside rest (Record Scan next) in
      decided_as (acted o Scan k c) _ next p
      (scan_same (streaks_in before) c h (take (inputs c.setup) k.of)
      ∙ ap unrun_in (sym (acted_scan o c k (later_means c.setup rest Scan next p q refl))))
  plain_done_lem Temp next q = turned-unrun o c rest Temp next refl
  plain_done_lem (Count n) next q = turned-unrun o c rest (Count n) next refl
  plain_done_lem (Sense v) next q =
      let p : c.setup.part ≢ 0 = part_there c.setup.part rest (Sense v) next (λ f. f) q in
      let k : Counts = counts_beside rest (Record (Sense v) next) in
      decided_as (acted o (Sense v) k c) _ next p
      (tick_same (streaks_in before) c h v
      ∙ ap unrun_in (sym (acted_sense o c v k (later_means c.setup rest (Sense v) next p q refl))))
  plain_done_lem Pin next q = turned-unrun o c rest Pin next refl
  plain_done_lem (Load l) next q = turned-unrun o c rest (Load l) next refl
  plain_done_lem Xready next q = turned-unrun o c rest Xready next refl
  plain_done_lem (OnBus b) next q = turned-unrun o c rest (OnBus b) next refl
  plain_done_lem (Level l) next q = turned-unrun o c rest (Level l) next refl
  plain_done_lem (Ticks v n) next q =
      let p : c.setup.part ≢ 0 = part_there c.setup.part rest (Ticks v n) next (λ f. f) q in
      let k : Counts = counts_beside rest (Record (Ticks v n) next) in
      let m : Meaning c.setup (Ticks v n) k = later_means c.setup rest (Ticks v n) next p q refl in
      decided_as (acted o (Ticks v n) k c) _ next p
      (ticks_as n v (fit_some ticks_most v n (meant_of_lem c.setup (Ticks v n) k m).1) ∙ ap unrun_in (sym (acted_ticks o c v n k m)))
  plain_done_lem (Soak v n) next q =
      let p : c.setup.part ≢ 0 = part_there c.setup.part rest (Soak v n) next (λ f. f) q in
      let k : Counts = counts_beside rest (Record (Soak v n) next) in
      let m : Meaning c.setup (Soak v n) k = later_means c.setup rest (Soak v n) next p q refl in
      decided_as (acted o (Soak v n) k c) _ next p
      (ticks_as n v (fit_some soak_most v n (meant_of_lem c.setup (Soak v n) k m).1) ∙ ap unrun_in (sym (acted_soak o c v n k m)))
  plain_done_lem (Wires n) next q = turned-unrun o c rest (Wires n) next refl

  pub plain_turn_lem : plain_turn before o (unrun c) rest ≡ forgetful (turn_of o c rest)
  unfolding plain_turn turn_of
  plain_turn_lem = by (read_of c.setup.part rest) refl
    where
      by : (x : Read) → read_of c.setup.part rest ≡ x → plain_turned before o (unrun c) rest x ≡ forgetful (turned o c rest x)
      by (Record e next) q = plain_done_lem e next q
      by (Refused k next) q = refl
      by Cut q = refl

-- ── the bytes lent so far are n whole records, which leave the chip c ──
pub record Lent (before : List ℕ) (o : Bool) (c : Chip) (n : ℕ) : Type 0 where
  pub leads : (f : ℕ) (q : List ℕ) → stands (n + f) false none (before ++ q) ≡ stands f o c q
  pub few : n ≤ length before
  pub calm : Calmed c

pub lent_none : Lent [] false none 0
lent_none =
    record {
      leads = λ f q. ap (λ (n : ℕ). stands n false none q) (zero-add f);
      few = omega arith;
      calm = ship_calm none.setup;
    }

none_left : (f : ℕ) (o : Bool) (c : Chip) → stands f o c [] ≡ c
none_left zero o c = refl
none_left (suc f) o c = refl

stands_cons : (f : ℕ) (o : Bool) (c : Chip) (l : List ℕ) → 0 < length l
    → stands (suc f) o c l
    ≡ cond (turn_of o c l).last (turn_of o c l).chip (stands f (turn_of o c l).fresh (turn_of o c l).chip (drop (turn_of o c l).next l))
stands_cons f o c [] h = absurd (omega arith)
stands_cons f o c (b ∷ l) h = refl

module _ (before : List ℕ) (o : Bool) (c : Chip) (n : ℕ) (g : Lent before o c n) where
  pub lent_chip : last_chip before ≡ c
  unfolding last_chip
  lent_chip =
      let e : length before ≡ n + (length before - n) = omega (arith, g.few) in
      ap (λ (f : ℕ). stands f false none before) e ∙ ap (stands (n + (length before - n)) false none) (sym (append-nil before))
      ∙ g.leads (length before - n) [] ∙ none_left (length before - n) o c

  pub lent_runs : runs_from (streaks_in before) ≡ c.runs
  lent_runs = runs_said before ∙ ap (λ (d : Chip). d.runs) lent_chip

  module _ (rest : List ℕ) (h : (turn_of o c rest).last ≡ false) where
    abbrev t : Turn
    t = turn_of o c rest

    sized : length (take t.next rest) ≡ t.next
    sized = simp length-take (omega (arith, turn_inside o c rest h))

    leads_on : (f : ℕ) (q : List ℕ) → stands (n + 1 + f) false none ((before ++ take t.next rest) ++ q) ≡ stands f t.fresh t.chip q
    leads_on f q =
        let e : n + 1 + f ≡ n + suc f = omega arith in
        let l : 0 < length (take t.next rest ++ q) = simp length-append (omega (arith, sized, turn_past o c rest h)) in
        ap (λ (m : ℕ). stands m false none ((before ++ take t.next rest) ++ q)) e
        ∙ ap (stands (n + suc f) false none) (append_assoc before (take t.next rest) q)
        ∙ g.leads (suc f) (take t.next rest ++ q)
        ∙ stands_cons f o c (take t.next rest ++ q) l
        ∙ ap (λ (x : Turn). cond x.last x.chip (stands f x.fresh x.chip (drop x.next (take t.next rest ++ q))))
        (same_frame o c rest q h)
        ∙ ap (λ (b : Bool). cond b t.chip (stands f t.fresh t.chip (drop t.next (take t.next rest ++ q)))) h
        ∙ ap (stands f t.fresh t.chip) (drop_at (take t.next rest) q t.next sized)

    pub lent_next : Lent (before ++ take t.next rest) t.fresh t.chip (n + 1)
    lent_next =
        record {
          leads = leads_on;
          few = simp length-append (omega (arith, g.few, sized, turn_past o c rest h));
          calm = turn_calm o c rest g.calm;
        }

-- ── all of them ──
plain_runs_lem : (f : ℕ) (before : List ℕ) (o : Bool) (c : Chip) (n : ℕ) (rest : List ℕ) → Lent before o c n
    → plain_runs f before o (unrun c) rest ≡ runs f o c rest
plain_runs_lem zero before o c n rest g = refl
plain_runs_lem (suc f) before o c n [] g = refl
plain_runs_lem (suc f) before o c n (b ∷ r) g =
    ap (λ (x : Turn). x.entry ∷ cond x.last []
    (plain_runs f (before ++ take x.next (b ∷ r)) x.fresh x.chip (drop x.next (b ∷ r))))
    (plain_turn_lem before o c (b ∷ r) (lent_runs before o c n g) g.calm)
    ∙ ap (λ (l : List Entry). (turn_of o c (b ∷ r)).entry ∷ l)
    (by (turn_of o c (b ∷ r)).last
    (λ h. plain_runs_lem f (before ++ take (turn_of o c (b ∷ r)).next (b ∷ r)) (turn_of o c (b ∷ r)).fresh (turn_of o c (b ∷ r)).chip
    (n + 1) (drop (turn_of o c (b ∷ r)).next (b ∷ r)) (lent_next before o c n g (b ∷ r) h)))
  where
    plainly : List Entry
    plainly =
        plain_runs f (before ++ take (turn_of o c (b ∷ r)).next (b ∷ r)) (turn_of o c (b ∷ r)).fresh (unrun (turn_of o c (b ∷ r)).chip)
        (drop (turn_of o c (b ∷ r)).next (b ∷ r))

    quickly : List Entry
    quickly = runs f (turn_of o c (b ∷ r)).fresh (turn_of o c (b ∷ r)).chip (drop (turn_of o c (b ∷ r)).next (b ∷ r))

    by : (z : Bool) → (z ≡ false → plainly ≡ quickly) → cond z [] plainly ≡ cond z [] quickly
    by true h = refl
    by false h = h refl

-- THE SAME ENTRIES, of every stream
pub plain_entries_lem : (s : List ℕ) → plain_entries s ≡ entries s
unfolding plain_entries entries
plain_entries_lem s = plain_runs_lem (length s) [] false none 0 s lent_none

-- .. so each shows the SYS_STAT and the pins of the events heard so far, of which CHIP H1 to H6 say when a bit is up
pub plain_shows : (s : List ℕ) (u : SetupValues) (next : ℕ) → read_of 0 s ≡ Record (Setup u) next
    → map shows (plain_entries s) ≡ map (λ past. to_show (chip u past)) (histories u next s)
plain_shows s u next first = ap (map shows) (plain_entries_lem s) ∙ entries_show s u next first

-- .. so up to 65,536 bytes the call answers and writes what `toralinge_play` does
pub plays : {s old new : List ℕ} {r : ℤ} → length s ≤ most → PlainPlayed s old r new → Played s old r new
plays {s} {old} {new} {r} h p =
    let l : leb (length s) most ≡ true = le-leb (length s) most h in
    record {
      answer = p.answer ∙ ap (λ (b : Bool). cond b (count (plain_entries s)) (negsuc 23)) l ∙ ap count (plain_entries_lem s);
      contents = p.contents
          ∙ ap (λ (b : Bool). cond (b && leb (5 * length (plain_entries s)) (length old)) (filled (plain_entries s)) old) l
          ∙ ap (λ (es : List Entry). cond (leb (5 * length es) (length old)) (filled es) old) (plain_entries_lem s);
    }
  where
    count : List Entry → ℤ
    count es = cond (leb (5 * length es) (length old)) (pos (length es)) (negsuc 4)

    filled : List Entry → List ℕ
    filled es = bytes_of es ++ drop (5 * length es) old

-- and any two answers that its promise allows are the same
pub same_plain : {s old new new' : List ℕ} {r r' : ℤ} → PlainPlayed s old r new → PlainPlayed s old r' new' → (r ≡ r') × (new ≡ new')
same_plain p q = (p.answer ∙ sym q.answer, p.contents ∙ sym q.contents)
