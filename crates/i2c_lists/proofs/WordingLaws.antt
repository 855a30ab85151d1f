-- The events of a list by its words, and which addresses and how many bytes these make. The words stand in specs/WordingLaws. Assumes
-- nothing.
use Rattle.std.specs.Prelude.{◌≡◌, refl, ℕ, zero, suc, ◌+◌, ◌*◌, List, [], ◌∷◌, ◌++◌, map, Bool, true, ◌&&◌, eqb, length}
use Rattle.std.proofs.Common.{ap, sym, ◌∙◌, append_assoc, arith, length-append}
use Rattle.events.specs.declared.BusEvent.{BusEvent}
use Rattle.events.specs.declared.BusEvent.TheVariants.{Start, Out, In, Stop}
use Rattle.events.specs.declared.Event.TheVariants.{OnBus}
use Rattle.records.specs.Record.{no_counts}
use Rattle.writer.specs.Write.{record_for}
use Rattle.i2c_words.specs.declared.Word.{Word}
use Rattle.i2c_words.specs.declared.Word.TheVariants.{Write, Read, Byte, Unknown}
use Rattle.i2c_lists.specs.Grammar.{Message, sends, takes, byte_word, words_of}
use Rattle.i2c_lists.specs.Records.{to_write, to_read, out_of, taken, events_of, records_of, near, all_near}
use Rattle.i2c_lists.specs.Judging.{size_of}
use Rattle.i2c_lists.specs.WordingLaws.{on_word, on_words, near_word}

abbrev pub near_words : List Word → Bool
near_words [] = true
near_words (x ∷ xs) = near_word x && near_words xs

abbrev pub size_all : List Word → ℕ
size_all [] = 0
size_all (x ∷ xs) = size_of x + size_all xs

-- ── the events ──
bytes_events : (bs : List ℕ) (xs : List Word) → on_words (map byte_word bs ++ xs) ≡ map out_of bs ++ on_words xs
bytes_events [] xs = refl
bytes_events (b ∷ bs) xs = ap (λ (es : List BusEvent). Out b ∷ es) (bytes_events bs xs)

pub events_words : (ms : List Message) → events_of ms ≡ on_words (words_of ms) ++ (Stop ∷ [])
events_words [] = refl
events_words (sends a bs ∷ ms) =
    ap (λ (es : List BusEvent). Start ∷ Out (to_write a) ∷ es)
    (ap (λ (es : List BusEvent). map out_of bs ++ es) (events_words ms)
    ∙ sym (append_assoc (map out_of bs) (on_words (words_of ms)) (Stop ∷ []))
    ∙ ap (λ (es : List BusEvent). es ++ (Stop ∷ [])) (sym (bytes_events bs (words_of ms))))
events_words (takes a n ∷ ms) =
    ap (λ (es : List BusEvent). Start ∷ Out (to_read a) ∷ es)
    (ap (λ (es : List BusEvent). taken n ++ es) (events_words ms) ∙ sym (append_assoc (taken n) (on_words (words_of ms)) (Stop ∷ [])))

-- ── the addresses ──
bytes_near : (bs : List ℕ) (xs : List Word) → near_words (map byte_word bs ++ xs) ≡ near_words xs
bytes_near [] xs = refl
bytes_near (b ∷ bs) xs = bytes_near bs xs

pub near_words_lem : (ms : List Message) → all_near ms ≡ near_words (words_of ms)
near_words_lem [] = refl
near_words_lem (sends a bs ∷ ms) = ap (λ (t : Bool). near a && t) (near_words_lem ms ∙ sym (bytes_near bs (words_of ms)))
near_words_lem (takes a n ∷ ms) = ap (λ (t : Bool). near a && t) (near_words_lem ms)

-- ── the bytes ──
pub records_append : (es fs : List BusEvent) → records_of (es ++ fs) ≡ records_of es ++ records_of fs
records_append [] fs = refl
records_append (e ∷ es) fs =
    ap (λ (l : List ℕ). record_for (OnBus e) no_counts ++ l) (records_append es fs)
    ∙ sym (append_assoc (record_for (OnBus e) no_counts) (records_of es) (records_of fs))

pub start_size : length (record_for (OnBus Start) no_counts) ≡ 4
unfolding record_for
start_size = refl

pub stop_size : length (record_for (OnBus Stop) no_counts) ≡ 4
unfolding record_for
stop_size = refl

pub out_size : (b : ℕ) → length (record_for (OnBus (Out b)) no_counts) ≡ 5
unfolding record_for
out_size b = refl

pub in_size : (t : Bool) → length (record_for (OnBus (In t)) no_counts) ≡ 5
unfolding record_for
in_size t = refl

pub record_more : (e : BusEvent) (es : List BusEvent)
    → length (records_of (e ∷ es)) ≡ length (record_for (OnBus e) no_counts) + length (records_of es)
record_more e es = length-append (record_for (OnBus e) no_counts) (records_of es)

taken_size : (n : ℕ) → length (records_of (taken n)) ≡ 5 * n
taken_size zero = refl
taken_size (suc n) = omega (arith, record_more (In (eqb n 0)) (taken n), in_size (eqb n 0), taken_size n)

pub word_size : (x : Word) → length (records_of (on_word x)) ≡ size_of x
word_size (Write n a) =
    omega (arith, record_more Start (Out (to_write a) ∷ []), start_size, record_more (Out (to_write a)) [], out_size (to_write a))
word_size (Read n a) =
    omega (
      arith,
      record_more Start (Out (to_read a) ∷ taken n),
      start_size,
      record_more (Out (to_read a)) (taken n),
      out_size (to_read a),
      taken_size n,
    )
word_size (Byte b) = omega (arith, record_more (Out b) [], out_size b)
word_size Unknown = refl

words_size : (xs : List Word) → length (records_of (on_words xs)) ≡ size_all xs
words_size [] = refl
words_size (x ∷ xs) =
    let a : length (records_of (on_word x ++ on_words xs)) ≡ length (records_of (on_word x)) + length (records_of (on_words xs)) =
    ap length (records_append (on_word x) (on_words xs)) ∙ length-append (records_of (on_word x)) (records_of (on_words xs)) in
    omega (arith, a, word_size x, words_size xs)

pub list_records : (ms : List Message) → records_of (events_of ms) ≡ records_of (on_words (words_of ms)) ++ records_of (Stop ∷ [])
list_records ms = ap records_of (events_words ms) ∙ records_append (on_words (words_of ms)) (Stop ∷ [])

pub list_size : (ms : List Message) → length (records_of (events_of ms)) ≡ size_all (words_of ms) + 4
list_size ms =
    let a : length (records_of (events_of ms)) ≡ length (records_of (on_words (words_of ms))) + length (records_of (Stop ∷ [])) =
    ap length (list_records ms) ∙ length-append (records_of (on_words (words_of ms))) (records_of (Stop ∷ [])) in
    omega (arith, a, words_size (words_of ms), record_more Stop [], stop_size)
