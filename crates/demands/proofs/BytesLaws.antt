-- DEMAND 3 of the bytes: for every stream and every record number, bit by bit, what bytes 3 and 4 of its entry show, by the events that its
-- records mean up to there. Assumes nothing.
use Rattle.std.specs.Prelude.{◌≡◌, refl, Bool, true, false, List, [], ◌∷◌, map, ◌↔◌, ℕ, zero, suc, ◌+◌, ◌*◌, ◌/◌, ◌%◌, ◌≤◌, ◌<◌, eqb}
use Rattle.std.specs.Prelude.{get_or, length}
use Rattle.std.proofs.Common.{sym, ap, subst, ◌∙◌, arith}
use Rattle.std.proofs.Math.Logic.{◌∨₁◌}
use Rattle.events.specs.declared.Setup.{Setup as SetupValues}
use Rattle.events.specs.declared.Event.TheVariants.{Setup}
use Rattle.events.specs.Event.{Event}
use Rattle.events.specs.declared.Fault.{Fault}
use Rattle.events.specs.declared.Fault.TheVariants.{Ov, Uv, Scd, Ocd}
use Rattle.bits.specs.Bit.{bit, weighed}
use Rattle.records.specs.declared.Read.TheVariants.{Record}
use Rattle.records.specs.Record.{read_of}
use Rattle.registers.specs.declared.Status.{Status}
use Rattle.registers.specs.Fault.{bit_of}
use Rattle.registers.specs.Read.{status_byte}
use Rattle.turn.specs.declared.Entry.{Entry}
use Rattle.turn.specs.Entries.{entries, bytes_of}
use Rattle.demands.specs.Demand.{judges, chip, shown, up, alerted, Accepted, Due}
use Rattle.demands.proofs.Theorem.{rising}
use Rattle.demands.proofs.Streams.{shows, to_show, histories, entries_show}

-- ── the bytes of the n-th entry ──
abbrev pub no_entry : Entry
no_entry = record { number = 0; flag = 0; byte = 0; stat = 0; pins = 0 }

stat_at : (es : List Entry) (n : ℕ) → n < length es → get_or (bytes_of es) (5 * n + 3) 0 ≡ (shows (get_or es n no_entry)).0
stat_at [] n h = absurd (omega arith)
stat_at (e ∷ es) zero h = refl
stat_at (e ∷ es) (suc n) h =
    ap (λ k. get_or (bytes_of (e ∷ es)) k 0) (let q : 5 * suc n + 3 ≡ suc (suc (suc (suc (suc (5 * n + 3))))) = omega arith in q)
    ∙ stat_at es n (omega arith)

pins_at : (es : List Entry) (n : ℕ) → n < length es → get_or (bytes_of es) (5 * n + 4) 0 ≡ (shows (get_or es n no_entry)).1
pins_at [] n h = absurd (omega arith)
pins_at (e ∷ es) zero h = refl
pins_at (e ∷ es) (suc n) h =
    ap (λ k. get_or (bytes_of (e ∷ es)) k 0) (let q : 5 * suc n + 4 ≡ suc (suc (suc (suc (suc (5 * n + 4))))) = omega arith in q)
    ∙ pins_at es n (omega arith)

map_at : {A B : Type 0} (f : A → B) (l : List A) (n : ℕ) (d : A) (b : B) → n < length l → get_or (map f l) n b ≡ f (get_or l n d)
map_at f [] n d b h = absurd (omega arith)
map_at f (x ∷ l) zero d b h = refl
map_at f (x ∷ l) (suc n) d b h = map_at f l n d b (omega arith)

map-length : {A B : Type 0} (f : A → B) (l : List A) → length (map f l) ≡ length l
map-length f [] = refl
map-length f (x ∷ l) = ap suc (map-length f l)

-- ── a bit of SYS_STAT's byte ──
one_is : (b : Bool) → eqb (weighed b 1) 1 ≡ b
one_is true = refl
one_is false = refl

one_most : (b : Bool) → weighed b 1 ≤ 1
one_most true = omega arith
one_most false = omega arith

times : (b : Bool) (w : ℕ) → weighed b w ≡ weighed b 1 * w
times true w = omega arith
times false w = omega arith

abbrev pub place : Fault → ℕ
place Uv = 8
place Ov = 4
place Scd = 2
place Ocd = 1

sum_bit : (x7 x5 x4 x3 x2 x1 x0 s : ℕ) → x3 ≤ 1 → x2 ≤ 1 → x1 ≤ 1 → x0 ≤ 1
    → s ≡ x7 * 128 + x5 * 32 + x4 * 16 + x3 * 8 + x2 * 4 + x1 * 2 + x0
    → (s / 8 % 2 ≡ x3) × (s / 4 % 2 ≡ x2) × (s / 2 % 2 ≡ x1) × (s / 1 % 2 ≡ x0)
sum_bit x7 x5 x4 x3 x2 x1 x0 s h3 h2 h1 h0 e = (omega arith, omega arith, omega arith, omega arith)

module _ (t : Status) where
  sum : status_byte t
      ≡ weighed t.cc_ready 1 * 128 + weighed t.xready 1 * 32 + weighed t.ovrd_alert 1 * 16 + weighed t.uv 1 * 8
      + weighed t.ov 1 * 4
      + weighed t.scd 1 * 2 + weighed t.ocd 1
  sum =
      omega (
        arith,
        times t.cc_ready 128,
        times t.xready 32,
        times t.ovrd_alert 16,
        times t.uv 8,
        times t.ov 4,
        times t.scd 2,
      )

  fault_bits : (status_byte t / 8 % 2 ≡ weighed t.uv 1) × (status_byte t / 4 % 2 ≡ weighed t.ov 1)
      × (status_byte t / 2 % 2 ≡ weighed t.scd 1) × (status_byte t / 1 % 2 ≡ weighed t.ocd 1)
  fault_bits =
      sum_bit (weighed t.cc_ready 1) (weighed t.xready 1) (weighed t.ovrd_alert 1) (weighed t.uv 1) (weighed t.ov 1)
      (weighed t.scd 1) (weighed t.ocd 1) (status_byte t) (one_most t.uv) (one_most t.ov) (one_most t.scd)
      (one_most t.ocd) sum

  pub status_bit : (k : Fault) → bit (status_byte t) (place k) ≡ bit_of k t
  status_bit Uv = ap (λ n. eqb n 1) fault_bits.0 ∙ one_is t.uv
  status_bit Ov = ap (λ n. eqb n 1) fault_bits.1 ∙ one_is t.ov
  status_bit Scd = ap (λ n. eqb n 1) fault_bits.2 ∙ one_is t.scd
  status_bit Ocd = ap (λ n. eqb n 1) fault_bits.3 ∙ one_is t.ocd

-- ── the pins: ALERT 4, CHG 2, DSG 1 ──
pins_bit : (a c d : Bool) → (bit (weighed a 4 + weighed c 2 + weighed d 1) 4 ≡ a) × (bit (weighed a 4 + weighed c 2 + weighed d 1) 2 ≡ c)
    × (bit (weighed a 4 + weighed c 2 + weighed d 1) 1 ≡ d)
pins_bit true true true = (refl, refl, refl)
pins_bit true true false = (refl, refl, refl)
pins_bit true false true = (refl, refl, refl)
pins_bit true false false = (refl, refl, refl)
pins_bit false true true = (refl, refl, refl)
pins_bit false true false = (refl, refl, refl)
pins_bit false false true = (refl, refl, refl)
pins_bit false false false = (refl, refl, refl)

-- ── a stream whose first record is a SETUP, read with success as u, up to the place next ──
module _ (s : List ℕ) (u : SetupValues) (next : ℕ) (first : read_of 0 s ≡ Record (Setup u) next) where
  -- the events heard up to its n-th record
  abbrev pub heard_to : ℕ → List Event
  heard_to n = get_or (histories u next s) n []

  pub entry_shows : (n : ℕ) → n < length (entries s) → shows (get_or (entries s) n no_entry) ≡ to_show (chip u (heard_to n))
  entry_shows n h =
      sym (map_at shows (entries s) n no_entry (0, 0) h)
      ∙ ap (λ l. get_or l n (0, 0)) (entries_show s u next first)
      ∙ map_at (λ past. to_show (chip u past)) (histories u next s) n [] (0, 0)
      (subst (λ k. n < k) (sym (map-length shows (entries s)) ∙ ap length (entries_show s u next first)
      ∙ map-length (λ past. to_show (chip u past)) (histories u next s)) h)

  -- BYTE 3: the bit of a fault is up in the n-th entry exactly when it is up after the events heard to there
  pub fault_shows : (n : ℕ) → n < length (entries s) → (k : Fault)
      → bit (get_or (bytes_of (entries s)) (5 * n + 3) 0) (place k) ≡ up u k (heard_to n)
  fault_shows n h k =
      ap (λ b. bit b (place k)) (stat_at (entries s) n h ∙ ap (λ (p : ℕ × ℕ). p.0) (entry_shows n h))
      ∙ status_bit (shown u (heard_to n)).status k

  -- and so by demand 3: where the last of these events is an accepted scan or tick that judges it, it is up exactly when it was up before,
  -- or its newest verdicts, as many as the delay now set, are all true
  pub fault_rises : (n : ℕ) → n < length (entries s) → (k : Fault) (past : List Event) (e : Event) → heard_to n ≡ e ∷ past
      → judges k e ≡ true → Accepted u past e
      → (bit (get_or (bytes_of (entries s)) (5 * n + 3) 0) (place k) ≡ true) ↔ ((up u k past ≡ true) ∨₁ Due u k (e ∷ past))
  fault_rises n h k past e l j a =
      subst (λ b. (b ≡ true) ↔ ((up u k past ≡ true) ∨₁ Due u k (e ∷ past))) (sym (fault_shows n h k ∙ ap (up u k) l))
      (rising u k past e j a)

  -- BYTE 4: ALERT and the drives
  pub pins_show : (n : ℕ) → n < length (entries s)
      → (bit (get_or (bytes_of (entries s)) (5 * n + 4) 0) 4 ≡ alerted u (heard_to n))
      × (bit (get_or (bytes_of (entries s)) (5 * n + 4) 0) 2 ≡ (shown u (heard_to n)).chg_on)
      × (bit (get_or (bytes_of (entries s)) (5 * n + 4) 0) 1 ≡ (shown u (heard_to n)).dsg_on)
  pins_show n h =
      subst (λ b. (bit b 4 ≡ alerted u (heard_to n)) × (bit b 2 ≡ (shown u (heard_to n)).chg_on)
      × (bit b 1 ≡ (shown u (heard_to n)).dsg_on))
      (sym (pins_at (entries s) n h ∙ ap (λ (p : ℕ × ℕ). p.1) (entry_shows n h)))
      (pins_bit (alerted u (heard_to n)) (shown u (heard_to n)).chg_on (shown u (heard_to n)).dsg_on)
