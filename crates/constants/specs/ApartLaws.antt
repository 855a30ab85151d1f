-- The numbers of the chip are told apart: no two refusals, addresses or bits of a register share one, and the words follow each other.
-- Assumes nothing.
use Rattle.std.specs.Prelude.{◌≡◌, refl, Bool, true, ◌&&◌, List, [], ◌∷◌, ℕ, ◌+◌, ◌*◌, ltb}
use Rattle.constants.specs.Address.{SYS_STAT, CELLBAL1, CELLBAL2, CELLBAL3, SYS_CTRL1, SYS_CTRL2, PROTECT1, PROTECT2, PROTECT3}
use Rattle.constants.specs.Address.{OV_TRIP, UV_TRIP, CC_CFG, VC1, BAT, TS1, CC, AFTER_CC, ADCGAIN1, ADCOFFSET, ADCGAIN2}
use Rattle.constants.specs.Number.{DONE, BAD_SETUP, BAD_KIND, BAD_VALUE, ASLEEP, NO_ROOM, NO_CELL, OPEN_SENSOR}
use Rattle.constants.specs.Number.{NO_CODE, CUT, NOT_CONNECTED, NO_FIT, EXTERNAL, NO_ROW, NO_LIST, BAD_ADDRESS}
use Rattle.constants.specs.Number.{SEASON_FULL, BAD_COMMAND, TOO_LONG, OTHER_CHIP, NO_CHIP, NO_RECORD, NOT_SO}
use Rattle.constants.specs.Weight.{CC_READY, XREADY, OVRD_ALERT, UV, OV, SCD, OCD, LOAD_PRESENT, ADC_EN, TEMP_SEL}
use Rattle.constants.specs.Weight.{SHUT_A, SHUT_B, DELAY_DIS, CC_EN, CC_ONESHOT, DSG_ON, CHG_ON, PIN_ALERT, PIN_CHG}
use Rattle.constants.specs.Weight.{PIN_DSG}

-- each is above the one before it
abbrev pub rising : ℕ → List ℕ → Bool
rising x [] = true
rising x (y ∷ ys) = ltb x y && rising y ys

pub numbers_rise : rising DONE (
    BAD_SETUP ∷ BAD_KIND ∷ BAD_VALUE ∷ ASLEEP ∷ NO_ROOM ∷ NO_CELL ∷ OPEN_SENSOR ∷ NO_CODE ∷ CUT ∷ NOT_CONNECTED ∷ NO_FIT
    ∷ EXTERNAL ∷ NO_ROW ∷ NO_LIST ∷ BAD_ADDRESS ∷ SEASON_FULL ∷ BAD_COMMAND ∷ TOO_LONG ∷ OTHER_CHIP ∷ NO_CHIP ∷ NO_RECORD
    ∷ NOT_SO ∷ []
    ) ≡ true
numbers_rise = refl

pub addresses_rise : rising SYS_STAT (
    CELLBAL1 ∷ CELLBAL2 ∷ CELLBAL3 ∷ SYS_CTRL1 ∷ SYS_CTRL2 ∷ PROTECT1 ∷ PROTECT2 ∷ PROTECT3 ∷ OV_TRIP ∷ UV_TRIP ∷ CC_CFG ∷ VC1
    ∷ BAT ∷ TS1 ∷ CC ∷ AFTER_CC ∷ ADCGAIN1 ∷ ADCOFFSET ∷ ADCGAIN2 ∷ []
    ) ≡ true
addresses_rise = refl

-- fifteen cells of two bytes, BAT, three thermistors, CC
pub words_follow : (VC1 + 2 * 15 ≡ BAT) × (BAT + 2 ≡ TS1) × (TS1 + 2 * 3 ≡ CC) × (CC + 2 ≡ AFTER_CC)
words_follow = (refl, refl, refl, refl)

-- the bits of one byte: each weighs more than all below it together, and the byte has 256 values
abbrev pub sum : List ℕ → ℕ
sum [] = 0
sum (x ∷ xs) = x + sum xs

abbrev pub apart : List ℕ → Bool
apart [] = true
apart (x ∷ xs) = ltb (sum xs) x && apart xs

abbrev pub Byte : List ℕ → Type 0
Byte xs = (apart xs ≡ true) × (ltb (sum xs) 256 ≡ true)

pub bits_apart : Byte (CC_READY ∷ XREADY ∷ OVRD_ALERT ∷ UV ∷ OV ∷ SCD ∷ OCD ∷ [])
    × Byte (LOAD_PRESENT ∷ ADC_EN ∷ TEMP_SEL ∷ SHUT_A ∷ SHUT_B ∷ [])
    × Byte (DELAY_DIS ∷ CC_EN ∷ CC_ONESHOT ∷ DSG_ON ∷ CHG_ON ∷ []) × Byte (PIN_ALERT ∷ PIN_CHG ∷ PIN_DSG ∷ [])
bits_apart = ((refl, refl), (refl, refl), (refl, refl), (refl, refl))
