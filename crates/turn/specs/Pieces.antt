-- Records fed in pieces: cut anywhere between two records, they give the entries and leave the chip that they give and leave as one.
-- Assumes nothing.
use Rattle.std.specs.Prelude.{◌≡◌, refl, Bool, true, false, cond, ◌≢◌, List, [], ◌∷◌, ◌++◌, ℕ, zero, suc, ◌+◌, ◌-◌, ◌≤◌, length, drop}
use Rattle.std.proofs.Common.{ap, sym, ◌∙◌, subst, append_assoc, arith, length-append, length-drop, ne_eqb}
use Rattle.std.proofs.lemmas.List.{drop-append-le}
use Rattle.events.specs.declared.Setup.{Setup as SetupValues}
use Rattle.records.specs.declared.Read.{Read}
use Rattle.records.specs.declared.Read.TheVariants.{Record, Refused, Cut}
use Rattle.records.specs.Frame.{frame_of}
use Rattle.records.specs.Record.{read_of}
use Rattle.chip.specs.declared.Chip.{Chip}
use Rattle.turn.specs.declared.Entry.{Entry}
use Rattle.turn.specs.Turn.{Turn, none, turned, turn_of}
use Rattle.turn.specs.Entries.{runs, stands, stays, entries_from, chip_from, fresh_from, entries}
use Rattle.turn.specs.CountedLaws.{Framed, framed}
use Rattle.turn.specs.StandingLaws.{setup_turn}
use Rattle.turn.specs.PrefixLaws.{WholeRecords, none_left, one_more, same_turn, turn_inside, turn_past}

-- ── fuel: each record takes a byte at least, so more than there are bytes changes nothing ──
abbrev Alike : ℕ → ℕ → Bool → Chip → List ℕ → Type 0
Alike f g o c s = (runs f o c s ≡ runs g o c s) × (stands f o c s ≡ stands g o c s) × (stays f o c s ≡ stays g o c s)

rest_fits : (o : Bool) (c : Chip) (b : ℕ) (s : List ℕ) → (turn_of o c (b ∷ s)).last ≡ false
    → length (drop (turn_of o c (b ∷ s)).next (b ∷ s)) ≤ length s
rest_fits o c b s l =
    let d : length (drop (turn_of o c (b ∷ s)).next (b ∷ s)) ≡ length (b ∷ s) - (turn_of o c (b ∷ s)).next =
    length-drop (turn_of o c (b ∷ s)).next (b ∷ s) in
    omega (arith, d, turn_past o c (b ∷ s) l)

module _ (f g : ℕ) (o : Bool) (c : Chip) (b : ℕ) (s : List ℕ) where
  abbrev u : Turn
  u = turn_of o c (b ∷ s)

  abbrev s' : List ℕ
  s' = drop u.next (b ∷ s)

  after_alike : (l : Bool) → (l ≡ false → Alike f g u.fresh u.chip s')
      → (cond l [] (runs f u.fresh u.chip s') ≡ cond l [] (runs g u.fresh u.chip s'))
      × (cond l u.chip (stands f u.fresh u.chip s') ≡ cond l u.chip (stands g u.fresh u.chip s'))
      × (cond l u.fresh (stays f u.fresh u.chip s') ≡ cond l u.fresh (stays g u.fresh u.chip s'))
  after_alike true i = (refl, refl, refl)
  after_alike false i = i refl

  alike_more : (u.last ≡ false → Alike f g u.fresh u.chip s') → Alike (suc f) (suc g) o c (b ∷ s)
  alike_more i = let e = after_alike u.last i in (ap (λ (l : List Entry). u.entry ∷ l) e.0, e.1, e.2)

enough : (f g : ℕ) (o : Bool) (c : Chip) (s : List ℕ) → length s ≤ f → length s ≤ g → Alike f g o c s
enough zero zero o c s x y = (refl, refl, refl)
enough zero (suc g) o c [] x y = (refl, refl, refl)
enough (suc f) zero o c [] x y = (refl, refl, refl)
enough (suc f) (suc g) o c [] x y = (refl, refl, refl)
enough zero (suc g) o c (b ∷ s) x y = absurd (omega (arith, x))
enough (suc f) zero o c (b ∷ s) x y = absurd (omega (arith, y))
enough (suc f) (suc g) o c (b ∷ s) x y =
    alike_more f g o c b s
    (λ l. enough f g (turn_of o c (b ∷ s)).fresh (turn_of o c (b ∷ s)).chip (drop (turn_of o c (b ∷ s)).next (b ∷ s))
    (omega (arith, x, rest_fits o c b s l)) (omega (arith, y, rest_fits o c b s l)))

-- ── whole records, then what follows ──
-- with fuel f for the whole and g for what follows
abbrev Splits : ℕ → ℕ → Bool → Chip → List ℕ → List ℕ → Type 0
Splits f g o c p s =
    (runs f o c (p ++ s) ≡ runs f o c p ++ runs g (stays f o c p) (stands f o c p) s)
    × (stands f o c (p ++ s) ≡ stands g (stays f o c p) (stands f o c p) s)
    × (stays f o c (p ++ s) ≡ stays g (stays f o c p) (stands f o c p) s)

-- the first record, whatever follows
module _ (o : Bool) (c : Chip) (b : ℕ) (p : List ℕ) (l : (turn_of o c (b ∷ p)).last ≡ false) where
  abbrev t : Turn
  t = turn_of o c (b ∷ p)

  abbrev p' : List ℕ
  p' = drop t.next (b ∷ p)

  runs_one : (f : ℕ) → runs (suc f) o c (b ∷ p) ≡ t.entry ∷ runs f t.fresh t.chip p'
  runs_one f = ap (λ (x : Bool). t.entry ∷ cond x [] (runs f t.fresh t.chip p')) l

  stands_one : (f : ℕ) → stands (suc f) o c (b ∷ p) ≡ stands f t.fresh t.chip p'
  stands_one f = ap (λ (x : Bool). cond x t.chip (stands f t.fresh t.chip p')) l

  stays_one : (f : ℕ) → stays (suc f) o c (b ∷ p) ≡ stays f t.fresh t.chip p'
  stays_one f = ap (λ (x : Bool). cond x t.fresh (stays f t.fresh t.chip p')) l

  module _ (s : List ℕ) where
    turn_same : turn_of o c (b ∷ (p ++ s)) ≡ t
    turn_same = same_turn o c (b ∷ p) s l

    rest_same : drop t.next (b ∷ (p ++ s)) ≡ p' ++ s
    rest_same = drop-append-le t.next (b ∷ p) s (turn_inside o c (b ∷ p) l)

    runs_more : (f : ℕ) → runs (suc f) o c (b ∷ (p ++ s)) ≡ t.entry ∷ runs f t.fresh t.chip (p' ++ s)
    runs_more f =
        ap (λ (x : Turn). x.entry ∷ cond x.last [] (runs f x.fresh x.chip (drop x.next (b ∷ (p ++ s))))) turn_same
        ∙ ap (λ (x : Bool). t.entry ∷ cond x [] (runs f t.fresh t.chip (drop t.next (b ∷ (p ++ s))))) l
        ∙ ap (λ (q : List ℕ). t.entry ∷ runs f t.fresh t.chip q) rest_same

    stands_more : (f : ℕ) → stands (suc f) o c (b ∷ (p ++ s)) ≡ stands f t.fresh t.chip (p' ++ s)
    stands_more f =
        ap (λ (x : Turn). cond x.last x.chip (stands f x.fresh x.chip (drop x.next (b ∷ (p ++ s))))) turn_same
        ∙ ap (λ (x : Bool). cond x t.chip (stands f t.fresh t.chip (drop t.next (b ∷ (p ++ s))))) l
        ∙ ap (stands f t.fresh t.chip) rest_same

    stays_more : (f : ℕ) → stays (suc f) o c (b ∷ (p ++ s)) ≡ stays f t.fresh t.chip (p' ++ s)
    stays_more f =
        ap (λ (x : Turn). cond x.last x.fresh (stays f x.fresh x.chip (drop x.next (b ∷ (p ++ s))))) turn_same
        ∙ ap (λ (x : Bool). cond x t.fresh (stays f t.fresh t.chip (drop t.next (b ∷ (p ++ s))))) l
        ∙ ap (stays f t.fresh t.chip) rest_same

    one_splits : (f g : ℕ) → Splits f g t.fresh t.chip p' s → Splits (suc f) g o c (b ∷ p) s
    one_splits f g i =
        subst (λ (r : List Entry). P r (stays (suc f) o c (b ∷ p)) (stands (suc f) o c (b ∷ p))) (sym (runs_one f))
        (subst (λ (x : Bool). P (t.entry ∷ runs f t.fresh t.chip p') x (stands (suc f) o c (b ∷ p))) (sym (stays_one f))
        (subst (λ (d : Chip). P (t.entry ∷ runs f t.fresh t.chip p') (stays f t.fresh t.chip p') d) (sym (stands_one f))
        (runs_more f ∙ ap (λ (q : List Entry). t.entry ∷ q) i.0, stands_more f ∙ i.1, stays_more f ∙ i.2)))
      where
        P : List Entry → Bool → Chip → Type 0
        P r o' c' =
            (runs (suc f) o c (b ∷ (p ++ s)) ≡ r ++ runs g o' c' s) × (stands (suc f) o c (b ∷ (p ++ s)) ≡ stands g o' c' s)
            × (stays (suc f) o c (b ∷ (p ++ s)) ≡ stays g o' c' s)

splits_none : (f g : ℕ) (o : Bool) (c : Chip) (s : List ℕ) → Alike f g o c s → Splits f g o c [] s
splits_none zero g o c s a = a
splits_none (suc f) g o c s a = a

splits : {o : Bool} {c : Chip} {p : List ℕ} (w : WholeRecords o c p) (f g : ℕ) (s : List ℕ) → length (p ++ s) ≤ f → length s ≤ g
    → Splits f g o c p s
splits (none_left o c) f g s x y = splits_none f g o c s (enough f g o c s x y)
splits (one_more o c b p l w) zero g s x y = absurd (omega (arith, x))
splits (one_more o c b p l w) (suc f) g s x y =
    let z : length (p ++ s) ≡ length p + length s = length-append p s in
    let z' : length (p' o c b p l ++ s) ≡ length (p' o c b p l) + length s = length-append (p' o c b p l) s in
    one_splits o c b p l s f g (splits w f g s (omega (arith, rest_fits o c b p l, x, z, z')) y)

-- THE LAW: whole records a and then b, as one or as two pieces
pub record InTwo (o : Bool) (c : Chip) (a b : List ℕ) : Type 0 where
  pub gives : entries_from o c (a ++ b) ≡ entries_from o c a ++ entries_from (fresh_from o c a) (chip_from o c a) b
  pub leaves : chip_from o c (a ++ b) ≡ chip_from (fresh_from o c a) (chip_from o c a) b
  pub opens : fresh_from o c (a ++ b) ≡ fresh_from (fresh_from o c a) (chip_from o c a) b

pub fed_in_two : {o : Bool} {c : Chip} {a : List ℕ} → WholeRecords o c a → (b : List ℕ) → InTwo o c a b
unfolding entries_from chip_from fresh_from
fed_in_two {o} {c} {a} w b =
    let z : length (a ++ b) ≡ length a + length b = length-append a b in
    let f : ℕ = length (a ++ b) in
    let e = enough f (length a) o c a (omega (arith, z)) (omega arith) in
    let i = splits w f (length b) b (omega arith) (omega arith) in
    by (runs f o c a) (stays f o c a) (stands f o c a) e.0 e.2 e.1 i.0 i.1 i.2
  where
    by : (r : List Entry) (o' : Bool) (c' : Chip) → r ≡ runs (length a) o c a → o' ≡ stays (length a) o c a → c' ≡ stands (length a) o c a
        → runs (length (a ++ b)) o c (a ++ b) ≡ r ++ runs (length b) o' c' b
        → stands (length (a ++ b)) o c (a ++ b) ≡ stands (length b) o' c' b
        → stays (length (a ++ b)) o c (a ++ b) ≡ stays (length b) o' c' b → InTwo o c a b
    by r o' c' er eo ec x y z = record {
      gives =
          x ∙ ap (λ (r : List Entry). r ++ runs (length b) o' c' b) er
          ∙ ap (λ (o' : Bool). runs (length a) o c a ++ runs (length b) o' c' b) eo
          ∙ ap (λ (c' : Chip). runs (length a) o c a ++ runs (length b) (stays (length a) o c a) c' b) ec;
      leaves = y ∙ ap (λ (o' : Bool). stands (length b) o' c' b) eo
          ∙ ap (λ (c' : Chip). stands (length b) (stays (length a) o c a) c' b) ec;
      opens = z ∙ ap (λ (o' : Bool). stays (length b) o' c' b) eo ∙ ap (λ (c' : Chip). stays (length b) (stays (length a) o c a) c' b) ec;
    }

-- ── any number of pieces: what is fed, what they give, and what they leave ──
abbrev pub joined : List (List ℕ) → List ℕ
joined [] = []
joined (a ∷ ps) = a ++ joined ps

abbrev pub fed_entries : Bool → Chip → List (List ℕ) → List Entry
fed_entries o c [] = []
fed_entries o c (a ∷ ps) = entries_from o c a ++ fed_entries (fresh_from o c a) (chip_from o c a) ps

abbrev pub fed_chip : Bool → Chip → List (List ℕ) → Chip
fed_chip o c [] = c
fed_chip o c (a ∷ ps) = fed_chip (fresh_from o c a) (chip_from o c a) ps

abbrev pub fed_fresh : Bool → Chip → List (List ℕ) → Bool
fed_fresh o c [] = o
fed_fresh o c (a ∷ ps) = fed_fresh (fresh_from o c a) (chip_from o c a) ps

-- each is whole records on the chip that those before it leave
pub data WholePieces : Bool → Chip → List (List ℕ) → Type 0 where
  no_piece : (o : Bool) (c : Chip) → WholePieces o c []
  a_piece : (o : Bool) (c : Chip) (a : List ℕ) (ps : List (List ℕ)) → WholeRecords o c a
      → WholePieces (fresh_from o c a) (chip_from o c a) ps → WholePieces o c (a ∷ ps)

-- FED IN PIECES of whole records, then a last piece of any bytes: the entries are those of the whole, and so are the chip that is left
-- and whether it is still fresh
pub record InPieces (o : Bool) (c : Chip) (ps : List (List ℕ)) (s : List ℕ) : Type 0 where
  pub gives : entries_from o c (joined ps ++ s) ≡ fed_entries o c ps ++ entries_from (fed_fresh o c ps) (fed_chip o c ps) s
  pub leaves : chip_from o c (joined ps ++ s) ≡ chip_from (fed_fresh o c ps) (fed_chip o c ps) s
  pub opens : fresh_from o c (joined ps ++ s) ≡ fresh_from (fed_fresh o c ps) (fed_chip o c ps) s

pub fed_in_pieces : {o : Bool} {c : Chip} {ps : List (List ℕ)} → WholePieces o c ps → (s : List ℕ) → InPieces o c ps s
fed_in_pieces (no_piece o c) s = record { gives = refl; leaves = refl; opens = refl }
fed_in_pieces (a_piece o c a ps w ws) s =
    let two : InTwo o c a (joined ps ++ s) = fed_in_two w (joined ps ++ s) in
    let more : InPieces (fresh_from o c a) (chip_from o c a) ps s = fed_in_pieces ws s in
    let j : (a ++ joined ps) ++ s ≡ a ++ (joined ps ++ s) = append_assoc a (joined ps) s in
    record {
      gives =
          ap (entries_from o c) j ∙ two.gives ∙ ap (λ (l : List Entry). entries_from o c a ++ l) more.gives
          ∙ sym (append_assoc (entries_from o c a) (fed_entries (fresh_from o c a) (chip_from o c a) ps)
          (entries_from (fed_fresh o c (a ∷ ps)) (fed_chip o c (a ∷ ps)) s));
      leaves = ap (chip_from o c) j ∙ two.leaves ∙ more.leaves;
      opens = ap (fresh_from o c) j ∙ two.opens ∙ more.opens;
    }

-- and so of a stream, fed to no chip yet
pub played_in_pieces : {ps : List (List ℕ)} → WholePieces false none ps → (s : List ℕ)
    → entries (joined ps ++ s) ≡ fed_entries false none ps ++ entries_from (fed_fresh false none ps) (fed_chip false none ps) s
unfolding entries entries_from
played_in_pieces {ps} w s = (fed_in_pieces w s).gives

-- ── which bytes are whole records: those whose frames end with them, where a chip stands ──
pub data WholeFrames : List ℕ → Type 0 where
  no_bytes : WholeFrames []
  a_frame : (b : ℕ) (p : List ℕ) → frame_of (b ∷ p) ≢ 0 → WholeFrames (drop (frame_of (b ∷ p)) (b ∷ p)) → WholeFrames (b ∷ p)

abbrev Goes : List ℕ → Turn → Type 0
Goes r t = (t.last ≡ false) × (t.next ≡ frame_of r)

goes_by : (o : Bool) (c : Chip) (r : List ℕ) → c.setup.part ≢ 0 → frame_of r ≢ 0 → (x : Read) → Framed r x → Goes r (turned o c r x)
goes_by o c r p f (Record e next) g = (refl, sym g.0)
goes_by o c r p f (Refused k next) g = (ne_eqb c.setup.part 0 p, sym g.0)
goes_by o c r p f Cut g = absurd (f g)

goes : (o : Bool) (c : Chip) (r : List ℕ) → c.setup.part ≢ 0 → frame_of r ≢ 0 → Goes r (turn_of o c r)
unfolding turn_of
goes o c r p f = goes_by o c r p f (read_of c.setup.part r) (framed c.setup.part r)

pub whole_frames : (o : Bool) (c : Chip) {a : List ℕ} → c.setup.part ≢ 0 → WholeFrames a → WholeRecords o c a
whole_frames o c p no_bytes = none_left o c
whole_frames o c p (a_frame b s f w) =
    let g : Goes (b ∷ s) (turn_of o c (b ∷ s)) = goes o c (b ∷ s) p f in
    let k : (turn_of o c (b ∷ s)).chip.setup.part ≡ c.setup.part = ap (λ (v : SetupValues). v.part) (setup_turn o c (b ∷ s) p) in
    one_more o c b s g.0
    (subst (λ (n : ℕ). WholeRecords (turn_of o c (b ∷ s)).fresh (turn_of o c (b ∷ s)).chip (drop n (b ∷ s))) (sym g.1)
    (whole_frames (turn_of o c (b ∷ s)).fresh (turn_of o c (b ∷ s)).chip (λ z. p (sym k ∙ z)) w))
