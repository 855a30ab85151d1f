-- REPORTS GROW IN ANY PIECES: a report kept as bytes is grown by whole records, which are then fed to the chip kept as bytes, piece after
-- piece, and last by any bytes. It has the bytes and the answer that it has grown once by all of them. Assumes nothing.
use Rattle.std.specs.Prelude.{◌≡◌, refl, Bool, true, false, not, ◌&&◌, ◌||◌, ◌≢◌, ℕ, zero, suc, ◌+◌, ◌≤◌, eqb, leb, ltb, ℤ, pos, negsuc}
use Rattle.std.specs.Prelude.{neg_ℤ, take, replicate}
use Rattle.std.proofs.Math.Path.{sym, ap}
use Rattle.std.proofs.Common.{ap₂, ◌∙◌, true≢false, arith, drop_at, le-ltb}
use Rattle.std.proofs.Math.Bool.{cond}
use mathlib.Core.List.{List, [], ◌∷◌, ◌++◌, append_assoc}
use Rattle.std.proofs.Math.ListN.{length, drop, length-append}
use Rattle.std.proofs.Math.Seq.{take_at}
use Rattle.std.specs.Int.Signed.{non_neg}
use Rattle.constants.specs.Answer.{Said, gives, refuses}
use Rattle.events.specs.declared.Setup.{Setup}
use Rattle.bits.specs.Numbers.{bit_of}
use Rattle.wiring.specs.Rows.{has_row}
use Rattle.registers.specs.State.{alert}
use Rattle.season.specs.Columns.{Season, Reported, reported}
use Rattle.season.specs.Report.{season_of}
use Rattle.chip.specs.declared.Chip.{Chip}
use Rattle.turn.specs.Turn.{none}
use Rattle.turn.specs.Entries.{chip_from, fresh_from}
use Rattle.turn.specs.PrefixLaws.{WholeRecords}
use Rattle.turn.specs.Pieces.{joined, WholePieces, a_piece}
use Rattle.chip_bytes_layout.specs.Kept.{Kept}
use Rattle.chip_bytes_layout.specs.Layout.{setup_stands, keeps, kept_of as chip_of}
use Rattle.chip_bytes_layout.specs.Layout.{could_stand as chip_stands}
use Rattle.chip_bytes_layout.proofs.OneLaws.{not_yet, stands}
use Rattle.chip_bytes_layout.proofs.OneLaws.{Stood as ChipStood}
use Rattle.feed.specs.Fed.{Fed}
use Rattle.feed.specs.KeptLaws.{from_stands}
use Rattle.feed.specs.FedLaws.{Keeps, kept_is, keeps_on}
use Rattle.season_columns.specs.Columns.{could_stand}
use Rattle.season_columns.specs.Stood.{Stood}
use Rattle.season_columns.specs.AgreesLaws.{stood_of}
use Rattle.season_bytes_layout.specs.Layout.{report_bytes, blank, kept_at, kept_of, kept_in}
use Rattle.season_bytes_layout.proofs.TripLaws.{trip, report_length}
use Rattle.season_walk.specs.Scans.{scans_from}
use Rattle.season_stream.specs.Scans.{season_said}
use Rattle.season_walk.specs.PiecesLaws.{range_from, lacks_from}
use Rattle.season_c.specs.Calls.{grow_said, grow_answer, kept_bytes, Grows}
use Rattle.season_c.specs.CallsLaws.{same_grown, season_grown}
use Rattle.season_c.specs.BytesLaws.{zero_report}
use Rattle.season_laws.specs.GrownLaws.{Gave, none_yet, of_scans, grown_as, gave_on, refused_some, grown_in_two}

-- ── a buffer that keeps a report, or none yet ──
pub record Holds (b : List ℕ) (r : Reported) : Type 0 where
  pub room : 309 ≤ length b
  pub gave : Gave r
  pub is : kept_of b ≡ r

-- zeroed bytes keep none yet
pub holds_none : (b : List ℕ) → 309 ≤ length b → take 309 b ≡ replicate 309 0 → Holds b (reported 9 blank)
holds_none b h e = record { room = h; gave = none_yet; is = zero_report b h e }

-- ── the chip that stands after records has a setup in range ──
first_of : (a b c : Bool) → a && b && c ≡ true → a ≡ true
first_of true b c h = refl
first_of false b c h = h

setup_good_lem : {c : Chip} {o : Bool} → ChipStood c o → c.setup.part ≢ 0 → setup_stands c.setup ≡ true
unfolding chip_stands
setup_good_lem not_yet p = absurd (p refl)
setup_good_lem {c} {o} (stands h z) p =
    first_of (setup_stands c.setup) (alert c.registers.shown.status || not c.registers.outside_level)
    (not o || (not c.normal && eqb c.setup.cells 0)) h

-- the part, the gain code, the floor and the row are the report's too
kept_of_lem : (p q c a b g f r : Bool) → p && q && c && a && b && g && f && r ≡ true → p && q && g && f && r ≡ true
kept_of_lem false q c a b g f r h = h
kept_of_lem true false c a b g f r h = h
kept_of_lem true true false a b g f r h = absurd (true≢false (sym h))
kept_of_lem true true true false b g f r h = absurd (true≢false (sym h))
kept_of_lem true true true true false g f r h = absurd (true≢false (sym h))
kept_of_lem true true true true true g f r h = h

stands_of : (u : Setup) (xs : List (List ℕ)) → setup_stands u ≡ true → could_stand (season_of u xs) ≡ true
unfolding setup_stands could_stand season_of
stands_of u xs h =
    kept_of_lem (leb 1 u.part) (leb u.part 3) (leb (bit_of u.crc) 1) (leb 0x08 u.address) (leb u.address 0x77)
    (leb u.gain_code 31) (leb u.floor 4095) (eqb u.cells 0 || has_row u.part u.cells) h

report_stood : {r : Reported} → Gave r → r.number ≡ 0 → Stood r.season
report_stood none_yet e = absurd (omega (arith, e))
report_stood (of_scans u xs v h z few) e = stood_of u xs (stands_of u xs v) h z

-- ── one call ──
-- a report that was written
pub record Wrote (b : List ℕ) (said : Said Season) (new : List ℕ) : Type 0 where
  pub report : Season
  pub is : said ≡ gives report
  pub bytes : new ≡ report_bytes report ++ drop 309 b
  pub holds : Holds new (reported 0 report)

not_negative : (m n : ℕ) → n ≢ 0 → pos m ≡ neg_ℤ (pos n) → ⊥
not_negative m zero h e = h refl
not_negative m (suc n) h e = true≢false (ap non_neg e)

module _ {b k : List ℕ} (s : List ℕ) {r : Reported} {c : Chip} {o : Bool} (h : Holds b r) (q : Keeps k c o) where
  abbrev wide : ltb (length b) 309 ≡ false
  wide = le-ltb (length b) 309 h.room

  pub said_is : grow_said (kept_of b) (chip_of k) s ≡ grow_said r (keeps c o) s
  said_is = ap₂ (λ (x : Reported) (y : Kept). grow_said x y s) h.is (kept_is q)

  gave_next : {y : Season} → grow_said r (keeps c o) s ≡ gives y → Gave (reported 0 y)
  gave_next e =
      gave_on h.gave (chip_from o c s).setup (scans_from o c s) (setup_good_lem (from_stands s q.stood)) (range_from o c s)
      (lacks_from o c s) (sym (grown_as h.gave o c s) ∙ e)

  module _ {m : ℕ} {new : List ℕ} (g : Grows (grow_said (kept_of b) (chip_of k) s) b (pos m) new) where
    bytes_by : (y : Season) → grow_said r (keeps c o) s ≡ gives y → new ≡ report_bytes y ++ drop 309 b
    unfolding kept_in
    bytes_by y e =
        g.contents ∙ ap (λ (x : Said Season). kept_bytes x b) (said_is ∙ e)
        ∙ ap (λ (t : Bool). cond t b (report_bytes y ++ drop 309 b)) wide

    wrote_by : (y : Season) → grow_said r (keeps c o) s ≡ gives y → Wrote b (grow_said r (keeps c o) s) new
    unfolding kept_of
    wrote_by y e =
        let w : new ≡ report_bytes y ++ drop 309 b = bytes_by y e in
        let l : length (report_bytes y) ≡ 309 = report_length y (report_stood (gave_next e) refl).sized in
        let n : length new ≡ 309 + length (drop 309 b) = ap length w ∙ length-append (report_bytes y) (drop 309 b) ∙ omega (arith, l) in
        record {
          report = y;
          is = e;
          bytes = w;
          holds =
              record {
                room = omega (arith, n);
                gave = gave_next e;
                is =
                    ap (λ (t : Bool). cond t (reported 26 blank) (kept_at (take 309 new))) (le-ltb (length new) 309 (omega (arith, n)))
                    ∙ ap kept_at (ap (take 309) w ∙ take_at (report_bytes y) (drop 309 b) 309 l)
                    ∙ trip (report_stood (gave_next e) refl);
              };
        }

    -- an answer that is not negative wrote one
    pub wrote : Wrote b (grow_said r (keeps c o) s) new
    wrote = by (grow_said r (keeps c o) s) refl
      where
        by : (x : Said Season) → grow_said r (keeps c o) s ≡ x → Wrote b (grow_said r (keeps c o) s) new
        by (gives y) e = wrote_by y e
        by (refuses n) e =
            absurd (not_negative m n (refused_some r (chip_from o c s).setup (scans_from o c s) (sym (grown_as h.gave o c s) ∙ e))
            (g.answer ∙ ap (λ (x : Said Season). grow_answer x (length b)) (said_is ∙ e)
            ∙ ap (λ (t : Bool). cond t (negsuc 4) (neg_ℤ (pos n))) wide))

-- ── two calls that say the same, on buffers of which one holds a report that the other one grew to ──
pub record Alike (x : ℤ) (new : List ℕ) (y : ℤ) (other : List ℕ) : Type 0 where
  pub answer : x ≡ y
  pub bytes : (n : ℕ) → x ≡ pos n → new ≡ other

module _ {b b' : List ℕ} {r : Reported} (h : Holds b r) {was : Said Season} (w : Wrote b was b') where
  tail_same : drop 309 b' ≡ drop 309 b
  tail_same =
      ap (drop 309) w.bytes
      ∙ drop_at (report_bytes w.report) (drop 309 b) 309 (report_length w.report (report_stood w.holds.gave refl).sized)

  rooms : ltb (length b') 309 ≡ ltb (length b) 309
  rooms = le-ltb (length b') 309 w.holds.room ∙ sym (le-ltb (length b) 309 h.room)

  answers : (said : Said Season) → grow_answer said (length b') ≡ grow_answer said (length b)
  answers (gives y) =
      ap (λ (t : Bool). cond t (negsuc 4) (pos y.scans)) rooms
  answers (refuses n) =
      ap (λ (t : Bool). cond t (negsuc 4) (neg_ℤ (pos n))) rooms

  contents : (y : Season) → kept_bytes (gives y) b' ≡ kept_bytes (gives y) b
  unfolding kept_in
  contents y =
      ap (λ (t : Bool). cond t b' (report_bytes y ++ drop 309 b')) (le-ltb (length b') 309 w.holds.room)
      ∙ ap (λ (l : List ℕ). report_bytes y ++ l) tail_same
      ∙ sym (ap (λ (t : Bool). cond t b (report_bytes y ++ drop 309 b)) (le-ltb (length b) 309 h.room))

  alike_by : (said : Said Season) → ((n : ℕ) → said ≡ refuses n → n ≢ 0)
      → Alike (grow_answer said (length b')) (kept_bytes said b') (grow_answer said (length b)) (kept_bytes said b)
  alike_by (gives y) s = record { answer = answers (gives y); bytes = λ n e. contents y }
  alike_by (refuses k) s =
      record {
        answer = answers (refuses k);
        bytes = λ n e. absurd (not_negative n k (s k refl) (sym e
            ∙ ap (λ (t : Bool). cond t (negsuc 4) (neg_ℤ (pos k))) (le-ltb (length b') 309 w.holds.room)));
      }

-- ── growing and feeding in turn: the buffers, the pieces, and the buffers at the end ──
pub data Grown : List ℕ → List ℕ → List (List ℕ) → List ℕ → List ℕ → Type 0 where
  no_more : (b k : List ℕ) → Grown b k [] b k
  more : (b k s old : List ℕ) (m n : ℕ) (b' k' new : List ℕ) (ps : List (List ℕ)) (end kept : List ℕ)
      → Grows (grow_said (kept_of b) (chip_of k) s) b (pos m) b' → Fed k s old (pos n) k' new → Grown b' k' ps end kept
      → Grown b k (s ∷ ps) end kept

first_piece : {o : Bool} {c : Chip} {a : List ℕ} {ps : List (List ℕ)} → WholePieces o c (a ∷ ps)
    → WholeRecords o c a × WholePieces (fresh_from o c a) (chip_from o c a) ps
first_piece (a_piece o c a ps w ws) = (w, ws)

-- THE LAW: pieces of whole records, each grown by and then fed, and a last piece of any bytes
pub grown_in_pieces : {b k : List ℕ} {ps : List (List ℕ)} {end kept : List ℕ} {r : Reported} {c : Chip} {o : Bool} → Holds b r → Keeps k c o
    → WholePieces o c ps → Grown b k ps end kept → (s : List ℕ) {x y : ℤ} {new whole : List ℕ}
    → Grows (grow_said (kept_of end) (chip_of kept) s) end x new → Grows (grow_said (kept_of b) (chip_of k) (joined ps ++ s)) b y whole
    → Alike x new y whole
grown_in_pieces h q ws (no_more b k) s f g = let e = same_grown f g in record { answer = e.0; bytes = λ n z. e.1 }
grown_in_pieces {r = r} {c = c} {o = o} h q ws (more b k a old m n b' k' old' ps end kept f t u) s {x} {y} {new} {whole} l g =
    let v = first_piece ws in
    let w : Wrote b (grow_said r (keeps c o) a) b' = wrote a h q f in
    let j : Keeps k' (chip_from o c a) (fresh_from o c a) = keeps_on q t in
    let rest : List ℕ = joined ps ++ s in
    let said : Said Season = grow_said r (keeps c o) (a ++ rest) in
    let i : Alike x new (grow_answer (grow_said (kept_of b') (chip_of k') rest) (length b'))
    (kept_bytes (grow_said (kept_of b') (chip_of k') rest) b') =
    grown_in_pieces w.holds j v.1 u s l (record { answer = refl; contents = refl }) in
    let first : grow_said (kept_of b') (chip_of k') rest ≡ said = said_is rest w.holds j ∙ grown_in_two h.gave v.0 rest w.is in
    let all : grow_said (kept_of b) (chip_of k) ((a ++ joined ps) ++ s) ≡ said =
    said_is ((a ++ joined ps) ++ s) h q ∙ ap (grow_said r (keeps c o)) (append_assoc a (joined ps) s) in
    let d : Alike (grow_answer said (length b')) (kept_bytes said b') (grow_answer said (length b)) (kept_bytes said b) =
    alike_by h w said
    (λ n e. refused_some r (chip_from o c (a ++ rest)).setup (scans_from o c (a ++ rest)) (sym (grown_as h.gave o c (a ++ rest)) ∙ e)) in
    let z : x ≡ grow_answer said (length b') = i.answer ∙ ap (λ (p : Said Season). grow_answer p (length b')) first in
    record {
      answer = z ∙ d.answer ∙ sym (g.answer ∙ ap (λ (p : Said Season). grow_answer p (length b)) all);
      bytes = λ n e. i.bytes n e ∙ ap (λ (p : Said Season). kept_bytes p b') first ∙ d.bytes n (sym z ∙ e)
          ∙ sym (g.contents ∙ ap (λ (p : Said Season). kept_bytes p b) all);
    }

-- THE SEASON OF A STREAM IN PIECES: from zeroed buffers on, the report at the end is the stream's
module _ {b k : List ℕ} {ps : List (List ℕ)} {end kept : List ℕ} {season : Season} (room : 309 ≤ length b)
    (z : take 309 b ≡ replicate 309 0) (q : Keeps k none false) (ws : WholePieces false none ps) (u : Grown b k ps end kept) (s : List ℕ)
    (e : season_said (joined ps ++ s) ≡ gives season) {x : ℤ} {new : List ℕ}
    (f : Grows (grow_said (kept_of end) (chip_of kept) s) end x new)
  where
    said : grow_said (kept_of b) (chip_of k) (joined ps ++ s) ≡ gives season
    said =
        said_is (joined ps ++ s) (holds_none b room z) q ∙ season_grown (joined ps ++ s) season e

    abbrev once : Grows (grow_said (kept_of b) (chip_of k) (joined ps ++ s)) b (pos season.scans) (report_bytes season ++ drop 309 b)
    unfolding kept_in
    once =
        record {
          answer = sym (ap (λ (p : Said Season). grow_answer p (length b)) said
              ∙ ap (λ (t : Bool). cond t (negsuc 4) (pos season.scans)) (le-ltb (length b) 309 room));
          contents = sym (ap (λ (p : Said Season). kept_bytes p b) said
              ∙ ap (λ (t : Bool). cond t b (report_bytes season ++ drop 309 b)) (le-ltb (length b) 309 room));
        }

    pub season_in_pieces : (x ≡ pos season.scans) × (new ≡ report_bytes season ++ drop 309 b)
    season_in_pieces =
        let a : Alike x new (pos season.scans) (report_bytes season ++ drop 309 b) =
        grown_in_pieces (holds_none b room z) q ws u s f once in
        (a.answer, a.bytes season.scans a.answer)
