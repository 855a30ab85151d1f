-- CHIP P17: WHAT toralinge_why TELLS of OV, UV, SCD and OCD, in the words of demand 3. Of every stream whose first record is a SETUP, every
-- entry and every such bit that is up in it: the record that is given is the one at which the bit rose; at one of its events the newest
-- verdicts of the waking spell, as many as are given, are all true (`Due`), and that is the delay that stood; the limit is the one that
-- stood; and the record that is given as the first holds the oldest of these verdicts. Assumes nothing.
use Rattle.std.specs.Prelude.{◌≡◌, refl, Bool, false, not, ◌≢◌, length, drop, get_or}
use Rattle.std.proofs.Math.Path.{sym, ap, subst}
use Rattle.std.proofs.Common.{◌∙◌, true≢false, arith, length-append, ne_eqb}
use Rattle.std.proofs.Math.Bool.{true, cond}
use mathlib.Core.List.{List, [], ◌∷◌, ◌++◌}
use Prim.Native.Nat.{ℕ, zero, suc, ◌-◌, ◌<◌, ◌≤◌}
use Rattle.std.proofs.Math.ListN.{take}
use Rattle.bits.specs.Bit.{bit}
use Rattle.events.specs.declared.Setup.{Setup as SetupValues}
use Rattle.events.specs.declared.Counts.{Counts}
use Rattle.events.specs.declared.Event.{Event as Coded}
use Rattle.events.specs.declared.Event.TheVariants.{Setup, Scan}
use Rattle.events.specs.Setup.{inputs}
use Rattle.events.specs.Event.{Event, Scan as Scanned, unfit, counts_fit, counts_wanted, event_of, meant_of, events_in}
use Rattle.events.specs.declared.Fault.{Fault}
use Rattle.events.specs.declared.Fault.TheVariants.{Ov, Uv, Scd, Ocd}
use Rattle.settings.specs.declared.Settings.{Settings}
use Rattle.records.specs.declared.Read.{Read}
use Rattle.records.specs.declared.Read.TheVariants.{Record, Refused, Cut}
use Rattle.records.specs.Record.{read_of, counts_beside}
use Rattle.protection.specs.Streak.{streak}
use Rattle.limits.specs.Rule.{rule}
use Rattle.chip.specs.declared.Chip.{Chip}
use Rattle.chip.specs.Core.{Core, bare}
use Rattle.turn.specs.Entries.{entries}
use Rattle.demands.specs.Demand.{of_cells, chip, up, standing, verdicts, delay}
use Rattle.demands.proofs.History.{setup_is, core_is}
use Rattle.demands.specs.Wired.{celled}
use Rattle.demands.specs.Streams.{heard_next}
use Rattle.demands.proofs.Streams.{a_part}
use Rattle.demands.proofs.BytesLaws.{no_entry, place, status_bit, heard_to, entry_shows}
use Rattle.why_scan.specs.declared.Says.{Says}
use Rattle.why_walk.specs.declared.Standing.{Standing}
use Rattle.why_walk.specs.Says.{says_read, says_in, event_says}
use Rattle.why_walk.specs.Standing.{standing_at}
use Rattle.why_rows.specs.declared.Why.{Why}
use Rattle.causes.specs.Cause.{is_judged, cause_of, need_of, limit_of}
use Rattle.why.specs.declared.Rose.{Rose}
use Rattle.why.specs.Rise.{risen}
use Rattle.why.specs.Why.{least_of, judged, unjudged, why_of}
use Rattle.why_laws.specs.RiseLaws.{shown_in, RoseAt}
use Rattle.why_laws.proofs.RiseLaws.{bit_rose, bit_stood}
use Rattle.why_laws.specs.StreakLaws.{says_bare}
use Rattle.why_laws.specs.AlongLaws.{says_in_lem, Along, along, heard_next_lem}
use Rattle.why_laws.specs.FirstLaws.{FirstOf}
use Rattle.why_laws.proofs.FirstLaws.{first_is}
use Rattle.why_laws.specs.DueLaws.{RisesAt, RisesIn, rises_in, alike_by, meant_alike}
use Rattle.why_laws.specs.InputLaws.{Names, single, of_member, only_scan, names_scan}

place_some : (k : Fault) → place k ≢ 0
place_some Uv z = omega (arith, z)
place_some Ov z = omega (arith, z)
place_some Scd z = omega (arith, z)
place_some Ocd z = omega (arith, z)

place_judged : (k : Fault) → is_judged (place k) ≡ true
place_judged Uv = refl
place_judged Ov = refl
place_judged Scd = refl
place_judged Ocd = refl

need_is : (k : Fault) (t : Settings) → need_of (place k) t ≡ (rule k t).need
need_is Uv t = refl
need_is Ov t = refl
need_is Scd t = refl
need_is Ocd t = refl

limit_is : (k : Fault) (t : Settings) → limit_of (place k) t ≡ (rule k t).limit
limit_is Uv t = refl
limit_is Ov t = refl
limit_is Scd t = refl
limit_is Ocd t = refl

-- nothing is up after SETUP
down_first : (u : SetupValues) (k : Fault) → up u k [] ≡ false
unfolding chip
down_first u Uv = refl
down_first u Ov = refl
down_first u Scd = refl
down_first u Ocd = refl

module _ (s : List ℕ) (u : SetupValues) (next : ℕ) (first : read_of 0 s ≡ Record (Setup u) next) (k : Fault) where
  abbrev b : ℕ
  b = place k

  abbrev past_to : ℕ → List Event
  past_to n = heard_to s u next first n

  -- what an entry shows of the bit
  shown_is : (n : ℕ) → n < length (entries s) → shown_in b 0 (get_or (entries s) n no_entry) ≡ up u k (past_to n)
  shown_is n h =
      ap (λ (t : Bool). cond t (not (bit (get_or (entries s) n no_entry).pins 0)) (bit (get_or (entries s) n no_entry).stat b))
      (ne_eqb b 0 (place_some k))
      ∙ ap (λ (p : ℕ × ℕ). bit p.0 b) (entry_shows s u next first n h)
      ∙ status_bit (chip u (past_to n)).registers.shown.status k

  -- the events that the record at the start of r means
  abbrev pub events_of : List ℕ → Read → List Event
  events_of r (Record e m) = events_in (meant_of u e (counts_beside r (Record e m)))
  events_of r (Refused j m) = []
  events_of r Cut = []

  heard_is : (r : List ℕ) (x : Read) (past : List Event) → heard_next u r x past ≡ events_of r x ++ past
  heard_is r (Record e m) past = refl
  heard_is r (Refused j m) past = refl
  heard_is r Cut past = refl

  -- the rising event of a record
  rises_in_it : (r : List ℕ) (x : Read) (past : List Event) → up u k past ≡ false → up u k (heard_next u r x past) ≡ true
      → RisesIn u k (events_of r x) past
  rises_in_it r (Record e m) past d i =
      rises_in u k (events_of r (Record e m)) past _ (meant_alike u k (meant_of u e (counts_beside r (Record e m)))) d i
  rises_in_it r (Refused j m) past d i = absurd (true≢false (sym i ∙ d))
  rises_in_it r Cut past d i = absurd (true≢false (sym i ∙ d))

  -- ── OV and UV: the input that is named ──
  module _ (cells : of_cells k ≡ true) where
    scan_at : (past : List Event) (q : Counts) (m : ℕ) (r : List ℕ) → counts_fit (counts_wanted u Scan) q ≡ true
        → RisesIn u k (events_in (meant_of u Scan q)) past → RisesAt u k past (Scanned (take (inputs u) q.of))
    unfolding meant_of
    scan_at past q m r f g =
        let xs : List ℕ = take (inputs u) q.of in
        let one : Scanned xs ∷ [] ≡ g.newer ++ g.event ∷ g.older =
        sym (ap (λ (t : Bool). events_in (cond t (event_of u Scan q.of) unfit)) f) ∙ g.split in
        let two = single (Scanned xs) g.event g.newer g.older one in
        subst (λ (e : Event). RisesAt u k past e) two.0 (subst (λ (l : List Event). RisesAt u k (l ++ past) g.event) two.1 g.at)

    abbrev Named : ℕ → List ℕ → Read → List Event → Type 0
    Named n r x past = Names u k cells past (says_read b (celled n (chip u past)) r x)

    named_scan : (n : ℕ) (r : List ℕ) (past : List Event) (e : Coded) (m : ℕ) → e ≡ Scan
        → counts_fit (counts_wanted u e) (counts_beside r (Record e m)) ≡ true → RisesIn u k (events_of r (Record e m)) past
        → Named n r (Record e m) past
    unfolding event_says
    named_scan n r past e m q =
        subst (λ (e : Coded). counts_fit (counts_wanted u e) (counts_beside r (Record e m)) ≡ true
        → RisesIn u k (events_of r (Record e m)) past
        → Named n r (Record e m) past) (sym q)
        (λ f g.
        let c : Counts = counts_beside r (Record Scan m) in
        subst (Names u k cells past)
        (sym (says_bare b n (chip u past) Scan c ∙ (λ i. event_says b (bare (setup_is u past i) (core_is u past i)) Scan c)))
        (names_scan u k cells past (take (inputs u) c.of) (scan_at past c m r f g)))

    named_in : (n : ℕ) (r : List ℕ) (x : Read) (past : List Event) → RisesIn u k (events_of r x) past → Named n r x past
    named_in n r (Record e m) past g =
        let c : Counts = counts_beside r (Record e m) in
        let o = only_scan u k cells e c (
        sym (of_member u k cells (alike_by u k (meant_of u e c)) (events_in (meant_of u e c)) g.newer g.older g.event
        (meant_alike u k (meant_of u e c)) g.split) ∙ g.at.judged
        ) in
        named_scan n r past e m o.is o.fit g
    named_in n r (Refused j m) past g = absurd (omega (arith, ap length g.split, length-append g.newer (g.event ∷ g.older)))
    named_in n r Cut past g = absurd (omega (arith, ap length g.split, length-append g.newer (g.event ∷ g.older)))

  module _ (n : ℕ) (h : n < length (entries s)) (is_up : bit (get_or (entries s) n no_entry).stat b ≡ true) where
    abbrev found : Rose
    found = risen s b 0 (suc n)

    -- the row that is given
    abbrev pub row : Why
    row = why_of s b found

    abbrev settled : Settings
    settled = found.stood.chip.registers.settings

    row_is : row
        ≡ judged s b found settled (says_in b found.stood.chip (drop found.stood.at s))
        (cause_of b (says_in b found.stood.chip (drop found.stood.at s)).pin)
    unfolding why_of
    row_is =
        let w : Says = says_in b found.stood.chip (drop found.stood.at s) in
        ap (λ (t : Bool). cond t (judged s b found settled w (cause_of b w.pin)) (unjudged found (cause_of b w.pin))) (place_judged k)

    -- what the record says at which it rose, of which the row has input and value
    abbrev pub said : Says
    said = says_in b found.stood.chip (drop found.stood.at s)

    pub input_is : row.input ≡ said.input
    input_is = ap (λ (w : Why). w.input) row_is

    pub value_is : row.value ≡ said.value
    value_is = ap (λ (w : Why). w.value) row_is

    -- THE PROMISE
    pub record Tells : Type 0 where
      -- the entries: the bit is up from `rose` to this one, and not in the one before
      pub rose_at : RoseAt s b 0 n row.rose
      -- the record before it, and the bytes from `rose` on
      pub before : ℕ
      pub rose_is : row.rose ≡ suc before
      pub bytes : List ℕ
      pub heard : past_to (suc before) ≡ events_of bytes (read_of u.part bytes) ++ past_to before
      -- due at one of its events, by as many verdicts as are given: the delay that stood
      pub rises : RisesIn u k (events_of bytes (read_of u.part bytes)) (past_to before)
      pub many_is : row.many ≡ delay u k (past_to before)
      pub limit_is : row.limit ≡ (rule k (standing u (past_to before))).limit
      -- of OV and UV the lowest input that is outside by it, with its count
      pub names : (cells : of_cells k ≡ true) → Names u k cells (past_to before) said
      -- the oldest of them is the verdict after `least`, of the streak that stands before `rose`: it is in the record `first`
      pub streak_is : (standing_at s b row.rose).streak ≡ streak (verdicts u k (past_to before))
      pub first_of : FirstOf s b (suc (streak (verdicts u k (past_to before))) - row.many) row.rose row.first

    tells_by : (i : ℕ) → found.rose ≡ i → Tells
    tells_by zero q =
        absurd (true≢false (
        sym ((bit_rose s b n (place_some k) h is_up).so_since 0 (subst (λ (m : ℕ). m ≤ 0) (sym q) (omega arith)) (omega arith))
        ∙ shown_is 0 (omega (arith, h)) ∙ down_first u k
        ))
    tells_by (suc j) q =
        let a : RoseAt s b 0 n found.rose = bit_rose s b n (place_some k) h is_up in
        let i : row.rose ≡ found.rose = ap (λ (w : Why). w.rose) row_is in
        let le : suc j ≤ n = subst (λ (m : ℕ). m ≤ n) q a.not_after in
        let g : Along s u next first k j (past_to j) = along s u next first k j (omega (arith, h, le)) in
        let r : List ℕ = drop (standing_at s b (suc j)).at s in
        let heard : past_to (suc j) ≡ heard_next u r (read_of u.part r) (past_to j) =
        heard_next_lem s u next first k j (omega (arith, h, le)) g in
        let stood : found.stood ≡ standing_at s b (suc j) = bit_stood s b n (place_some k) h is_up ∙ ap (standing_at s b) q in
        let set : settled ≡ standing u (past_to j) =
        ap (λ (t : Standing). t.chip.registers.settings) stood ∙ ap (λ (c : Chip). c.registers.settings) g.chip_is
        ∙ ap (λ (c : Core). c.settings) (core_is u (past_to j)) in
        let down : up u k (past_to j) ≡ false =
        sym (shown_is j (omega (arith, h, le))) ∙ a.not_before j q in
        let rose : up u k (heard_next u r (read_of u.part r) (past_to j)) ≡ true =
        sym (ap (up u k) heard) ∙ sym (shown_is (suc j) (omega (arith, h, le)))
        ∙ a.so_since (suc j) (subst (λ (m : ℕ). m ≤ suc j) (sym q) (omega arith)) le in
        let many : row.many ≡ delay u k (past_to j) =
        ap (λ (w : Why). w.many) row_is ∙ need_is k settled ∙ ap (λ (t : Settings). (rule k t).need) set in
        let newest : found.stood.streak ≡ streak (verdicts u k (past_to j)) =
        ap (λ (t : Standing). t.streak) stood ∙ g.streak_is in
        let least : least_of found.stood.streak (need_of b settled) ≡ suc (streak (verdicts u k (past_to j))) - row.many =
        ap (λ (m : ℕ). suc m - need_of b settled) newest
        ∙ ap (λ (m : ℕ). suc (streak (verdicts u k (past_to j))) - m) (sym (ap (λ (w : Why). w.many) row_is)) in
        let says : said ≡ says_read b (celled g.cells (chip u (past_to j))) r (read_of u.part r) =
        ap (λ (t : Standing). says_in b t.chip (drop t.at s)) stood ∙ ap (λ (c : Chip). says_in b c r) g.chip_is
        ∙ says_in_lem u k (a_part s u next first) g.cells r (past_to j) in
        let in_it : RisesIn u k (events_of r (read_of u.part r)) (past_to j) = rises_in_it r (read_of u.part r) (past_to j) down rose in
        record {
          rose_at = subst (RoseAt s b 0 n) (sym i) a;
          before = j;
          rose_is = i ∙ q;
          bytes = r;
          heard = heard ∙ heard_is r (read_of u.part r) (past_to j);
          rises = in_it;
          many_is = many;
          limit_is = ap (λ (w : Why). w.limit) row_is ∙ limit_is k settled ∙ ap (λ (t : Settings). (rule k t).limit) set;
          names = λ cells.
              subst (Names u k cells (past_to j)) (sym says) (named_in cells g.cells r (read_of u.part r) (past_to j) in_it);
          streak_is = ap (λ (m : ℕ). (standing_at s b m).streak) (i ∙ q) ∙ g.streak_is;
          first_of =
              subst (λ (m : ℕ). FirstOf s b m row.rose row.first) least
              (subst (λ (m : ℕ). FirstOf s b (least_of found.stood.streak (need_of b settled)) m row.first) (sym i)
              (subst (FirstOf s b (least_of found.stood.streak (need_of b settled)) found.rose)
              (sym (ap (λ (w : Why). w.first) row_is))
              (first_is s b (least_of found.stood.streak (need_of b settled)) found.rose)));
        }

    pub tells : Tells
    tells = tells_by found.rose refl
