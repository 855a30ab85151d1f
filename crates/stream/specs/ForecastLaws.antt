-- No reading is done with nothing given. Assumes nothing.
use Rattle.std.specs.Prelude.{◌≡◌, refl, Bool, true, false, cond, ◌&&◌, not, ◌≢◌, List, ℕ, zero, suc, eqb, ltb}
use Rattle.std.proofs.Common.{arith, eqb-true, ne_eqb}
use Rattle.records.specs.Record.{read_of, number_of}
use Rattle.chip_voltage.specs.Voltage.{forecast_number}
use Rattle.turn.specs.Entries.{last_chip}
use Rattle.turn.specs.StandingLaws.{no_chip}
use Rattle.stream.specs.Forecast.{reading_number, is_given}

-- where no chip stands the first record was refused, so a reading that is done is given
pub done_gives : (s : List ℕ) (room : ℕ) → reading_number s (last_chip s) room ≡ 0 → is_given (last_chip s) room ≡ true
done_gives s room h =
    by (eqb (last_chip s).setup.part 0) (forecast_number (last_chip s)) (ltb room 4)
    (λ e. no_chip s (eqb-true (last_chip s).setup.part 0 e)) h
  where
    by : (n : Bool) (k : ℕ) (t : Bool) → (n ≡ true → number_of (read_of 0 s) ≢ 0)
        → cond n (number_of (read_of 0 s)) (cond (eqb k 0) (cond t 5 0) k) ≡ 0 → not n && eqb k 0 && not t ≡ true
    by true k t f h = absurd (f refl h)
    by false zero true f h = absurd (omega (arith, h))
    by false zero false f h = refl
    by false (suc k) t f h = absurd (let e : suc k ≡ 0 = simp (ne_eqb (suc k) 0 (λ z. omega (arith, z))) at h in omega (arith, e))
