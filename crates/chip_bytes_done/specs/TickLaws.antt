-- A tick in NORMAL that raises nothing moves its runs, in the bytes as in the chip, and ticks of one value their runs and what rises.
-- Assumes nothing.
use Rattle.std.specs.Prelude.{◌≡◌, Bool, true, cond, ◌||◌, List, ◌++◌, ℕ, ℤ, take, drop}
use Rattle.std.proofs.Math.Path.{refl, ap}
use Rattle.std.proofs.Common.{sym, ap₂, ◌∙◌, subst}
use Rattle.std.proofs.Math.Bool.{false}
use Rattle.events.specs.Fault.{Faults}
use Rattle.events.specs.Event.{Sense}
use Rattle.events.specs.Fault.{among}
use Rattle.settings.specs.declared.Settings.{Settings}
use Rattle.registers.specs.declared.Shown.{Shown}
use Rattle.registers.specs.Fault.{raised}
use Rattle.protection.specs.Fault.{Runs}
use Rattle.protection.specs.declared.Judged.{Judged}
use Rattle.protection.specs.Judged.{tick_judged}
use Rattle.protection.specs.Repeat.{ticks_judged, ticks_alike, ticks_alike_lem}
use Rattle.chip.specs.declared.Chip.{Chip}
use Rattle.chip.specs.Answer.{Stepped}
use Rattle.chip.specs.Chip.{numbered, with_runs, settled, normally, asleep, happened, ticking, ticked}
use Rattle.chip.specs.Parts.{raised_by, tick_parts, still_tick}
use Rattle.chip.specs.RepeatLaws.{ticked_by}
use Rattle.chip.proofs.RepeatLaws.{ticking_is}
use Rattle.chip_bytes_layout.specs.Place.{FRESH}
use Rattle.chip_bytes_layout.specs.Layout.{plain_of, switches_of, words_of, chip_bytes, switch_at, settings_at, runs_at, shown_at, chip_at}
use Rattle.chip_bytes_layout.specs.Layout.{good_of}
use Rattle.chip_bytes_layout.specs.Layout.{chip_of}
use Rattle.chip_bytes_layout.specs.Did.{Awake, chip_here, Came, Did}
use Rattle.chip_bytes_layout.proofs.DidLaws.{calm, bytes_are, came, did}
use Rattle.chip_bytes_done.specs.Tick.{runs_in, raised_in, PutBy}

moved : (c : Chip) (f : Bool) (r : Runs) (rest : List ℕ) → r.ov ≡ c.runs.ov → r.uv ≡ c.runs.uv
    → runs_in r (chip_bytes c f ++ rest) ≡ chip_bytes (with_runs r c) false ++ rest
unfolding chip_bytes plain_of switches_of words_of
moved c f r rest ov uv = simp (ov, uv)

module _ (b : List ℕ) (v : ℤ) (w : Awake b) (g : good_of b ≡ true) where
  abbrev judged_here : Judged
  judged_here = tick_judged (chip_here b).registers.settings v (chip_here b).runs

  still_did : (shown : Shown) (new : List ℕ) → (judged_here.risen.scd || judged_here.risen.ocd) ≡ false
      → shown ≡ (chip_here b).registers.shown
      → new ≡ runs_in judged_here.runs b → Did b (Sense v) false 0 shown new
  unfolding tick_judged
  still_did shown new n s m =
      did b w g (Sense v) (with_runs judged_here.runs (chip_here b)) false 0 shown new refl (calm b w g)
      (ap (numbered 0)
      (sym (still_tick (chip_here b).registers.settings v (chip_here b).runs (with_runs judged_here.runs (chip_here b)) n))
      ∙ tick_parts v (chip_here b))
      s
      (m ∙ ap (runs_in judged_here.runs) (sym (bytes_are b w g))
      ∙ moved (chip_here b) (switch_at (take 96 b) FRESH) judged_here.runs (drop 96 b) refl refl)

-- by what was read of them
pub ticks_did : (b : List ℕ) (v : ℤ) {s : Settings} {r : Runs} {j : Judged} {shown : Shown} {new : List ℕ} → Awake b
    → r ≡ runs_at (take 96 b)
    → s ≡ settings_at (take 96 b) → j ≡ tick_judged s v r → (j.risen.scd || j.risen.ocd) ≡ false → shown ≡ shown_at (take 96 b)
    → new ≡ runs_in j.runs b → good_of b ≡ true → Did b (Sense v) false 0 shown new
unfolding chip_at
ticks_did b v {j = j} {shown = shown} {new = new} w r s q still shows moves g =
    let e : judged_here b v w g ≡ j = sym (q ∙ ap₂ (λ (s : Settings) (r : Runs). tick_judged s v r) s r) in
    still_did b v w g shown new (ap (λ (j : Judged). j.risen.scd || j.risen.ocd) e ∙ still) shows
    (moves ∙ ap (λ (j : Judged). runs_in j.runs b) (sym e))

-- ── ticks of one value ──
risen_moved : (c : Chip) (f : Bool) (scd ocd : ℕ) (x y : Bool) (rest : List ℕ)
    → let r : Runs = record { ov = c.runs.ov; uv = c.runs.uv; scd = scd; ocd = ocd } in
    let k : Faults = record { ov = false; uv = false; scd = x; ocd = y } in
    raised_in (raised (among k) c.registers.shown) (runs_in r (chip_bytes c f ++ rest))
    ≡ chip_bytes (raised_by k (with_runs r c)) false ++ rest
unfolding chip_bytes plain_of switches_of words_of
risen_moved c f scd ocd x y rest = refl

module _ (b : List ℕ) (v : ℤ) (n : ℕ) (w : Awake b) (g : good_of b ≡ true) where
  abbrev judged_all : Judged
  judged_all = ticks_alike n (chip_here b).registers.settings v (chip_here b).runs

  up : (chip_here b).normal ≡ true
  unfolding chip_at
  up = w.normal

  all_is : numbered 0 (ticked_by judged_all (chip_here b)) ≡ ticked n v (chip_here b)
  all_is =
      ap (λ (j : Judged). numbered 0 (ticked_by j (chip_here b)))
      (sym (ticks_alike_lem n (chip_here b).registers.settings v (chip_here b).runs))
      ∙ ap (numbered 0) (sym (ticking_is n v (chip_here b) up (calm b w g)))
      ∙ ap (λ (t : Bool). cond t (numbered 0 (ticking n v (chip_here b))) (numbered 4 (chip_here b))) (sym up)

  all_came : (shown : Shown) (new : List ℕ) → shown ≡ raised (among judged_all.risen) (chip_here b).registers.shown
      → new ≡ raised_in (raised (among judged_all.risen) (chip_here b).registers.shown) (runs_in judged_all.runs b)
      → Came b (ticked n v (chip_of b)) false 0 shown new
  all_came shown new s m =
      came b w g (λ (c : Chip). ticked n v c) (ticked_by judged_all (chip_here b)) false 0 shown new refl all_is s
      (m
      ∙ ap (λ (l : List ℕ). raised_in (raised (among judged_all.risen) (chip_here b).registers.shown) (runs_in judged_all.runs l))
      (sym (bytes_are b w g))
      ∙ risen_moved (chip_here b) (switch_at (take 96 b) FRESH) judged_all.runs.scd judged_all.runs.ocd judged_all.risen.scd
      judged_all.risen.ocd (drop 96 b))

-- by what was read of them
pub repeats_came : (b : List ℕ) (v : ℤ) (n : ℕ) {s : Settings} {r : Runs} {j : Judged} {shown : Shown} {new : List ℕ} → Awake b
    → r ≡ runs_at (take 96 b) → s ≡ settings_at (take 96 b) → j ≡ ticks_judged n s v r → PutBy j b shown new → good_of b ≡ true
    → Came b (ticked n v (chip_of b)) false 0 shown new
unfolding chip_at
repeats_came b v n {j = j} {shown = shown} {new = new} w r s q p g =
    let e : j ≡ judged_all b v n w g =
    q ∙ ap₂ (λ (s : Settings) (r : Runs). ticks_judged n s v r) s r
    ∙ ticks_alike_lem n (chip_here b).registers.settings v (chip_here b).runs in
    let x : shown ≡ raised (among (judged_all b v n w g).risen) (chip_here b).registers.shown =
    p.shows ∙ ap (λ (j : Judged). raised (among j.risen) (chip_here b).registers.shown) e in
    all_came b v n w g shown new x (p.moves ∙ ap₂ (λ (s : Shown) (j : Judged). raised_in s (runs_in j.runs b)) x e)

-- one of them is a tick
one_tick : (v : ℤ) (c : Chip) → ticked 1 v c ≡ happened (Sense v) c
unfolding happened
one_tick v c = by c.normal
  where
    by : (t : Bool)
        → cond t (numbered 0 (cond t (settled (normally (Sense v) c)) (asleep (Sense v) c)).chip) (numbered 4 c)
        ≡ cond t (settled (normally (Sense v) c)) (asleep (Sense v) c)
    by true = refl
    by false = refl

one_judged : (s : Settings) (v : ℤ) (r : Runs) → tick_judged s v r ≡ ticks_judged 1 s v r
unfolding ticks_judged
one_judged s v r = refl

pub rises_did : (b : List ℕ) (v : ℤ) {s : Settings} {r : Runs} {j : Judged} {shown : Shown} {new : List ℕ} → Awake b
    → r ≡ runs_at (take 96 b) → s ≡ settings_at (take 96 b) → j ≡ tick_judged s v r → PutBy j b shown new → good_of b ≡ true
    → Did b (Sense v) false 0 shown new
rises_did b v {s = s} {r = r} {shown = shown} {new = new} w er es q p g =
    subst (λ (x : Stepped). Came b x false 0 shown new) (one_tick v (chip_of b)) (repeats_came b v 1 w er es (q ∙ one_judged s v r) p g)
