-- Number 0 of a call is an answer given, and two answers that a call may give are the same. Assumes nothing.
use Rattle.std.specs.Prelude.{◌≡◌, refl, Bool, true, false, cond, ◌&&◌, ◌≢◌, List, ◌++◌, ℕ, ◌-◌, eqb, leb, ltb, ℤ, pos, negsuc, length}
use Rattle.std.specs.Prelude.{drop}
use Rattle.std.proofs.Common.{sym, ap, ◌∙◌, true≢false, eqb-true, eq-eqb}
use Rattle.constants.specs.Answer.{Said, gives, refuses}
use Rattle.bleed.specs.declared.Choice.{Choice}
use Rattle.bleed.specs.Excess.{proposed}
use Rattle.smart_battery.specs.declared.Pack.{Pack}
use Rattle.smart_battery.specs.Words.{kelvins, millivolts, milliamps, unsigned_said, signed_said, known, asked_for, word_for}
use Rattle.smart_battery.specs.Reply.{replied_number, reply_bytes, replied_bytes, Replied}
use Rattle.chip.specs.declared.Chip.{Chip}
use Rattle.chip_voltage.specs.Care.{cells_of, linked_of, proposal_said, pack_of, linked_total}
use Rattle.turn.specs.Entries.{last_chip}
use Rattle.turn.specs.StandingLaws.{no_chip}
use Rattle.turn.specs.AskedLaws.{standing_said, standing_none, standing_some}
use Rattle.chip_c.specs.Asks.{proposal_at, word_at, choice_bytes, bled_bytes, Bled}

-- ── no refusal has number 0 ──
abbrev pub Numbered : {A : Type 0} → Said A → Type 0
Numbered (refuses n) = n ≢ 0
Numbered (gives a) = Unit

small : (n : ℕ) → eqb n 0 ≡ false → n ≢ 0
small n e z = true≢false (sym (eq-eqb n 0 z) ∙ e)

pub proposal_numbered : (margin : ℕ) (c : Chip) → Numbered (proposal_said margin c)
unfolding proposal_said
proposal_numbered margin c =
    by (leb 1 margin && leb margin 16383) c.normal (eqb (linked_of c) 0) (proposed (cells_of c) (linked_of c) margin)
  where
    by : (m a l : Bool) (p : Choice) → Numbered (cond m (cond a (cond l (refuses 10) (gives p)) (refuses 4)) (refuses 3))
    by true true true p = small 10 refl
    by true true false p = tt
    by true false l p = small 4 refl
    by false a l p = small 3 refl

fits_numbered : (t : Bool) (w : ℕ) → Numbered (cond t (gives w) (refuses 11))
fits_numbered true w = tt
fits_numbered false w = small 11 refl

unsigned_numbered : (z : ℤ) → Numbered (unsigned_said z)
unsigned_numbered (pos n) = fits_numbered (leb n 65535) n
unsigned_numbered (negsuc n) = small 11 refl

signed_numbered : (z : ℤ) → Numbered (signed_said z)
signed_numbered (pos n) = fits_numbered (leb n 32767) n
signed_numbered (negsuc n) = fits_numbered (leb n 32767) (65535 - n)

asked_numbered : (p : Pack) (total : ℤ) (command r : ℕ) → Numbered (asked_for p total command r)
asked_numbered p total command r =
    by (eqb command 0x08) p.external (eqb command 0x09) p.connected (unsigned_said (kelvins p.warmth))
    (unsigned_said (millivolts total)) (signed_said (milliamps p.cc r))
    (unsigned_numbered (kelvins p.warmth)) (unsigned_numbered (millivolts total)) (signed_numbered (milliamps p.cc r))
  where
    by : (t e v k : Bool) (x y z : Said ℕ) → Numbered x → Numbered y → Numbered z
        → Numbered (cond t (cond e (refuses 12) x) (cond v (cond k y (refuses 10)) z))
    by true true v k x y z p q r = small 12 refl
    by true false v k x y z p q r = p
    by false e true true x y z p q r = q
    by false e true false x y z p q r = small 10 refl
    by false e false k x y z p q r = r

pub word_numbered : (p : Pack) (total : ℤ) (command r : ℕ) → Numbered (word_for p total command r)
word_numbered p total command r =
    by (known command) (leb 1 r && leb r 100) p.normal (asked_for p total command r) (asked_numbered p total command r)
  where
    by : (k r a : Bool) (x : Said ℕ) → Numbered x → Numbered (cond k (cond r (cond a x (refuses 4)) (refuses 3)) (refuses 23))
    by true true true x p = p
    by true true false x p = small 4 refl
    by true false a x p = small 3 refl
    by false r a x p = small 23 refl

-- ── so number 0 is a chip that stands, a value that it gave, and room for it ──
pub record Given {A : Type 0} (s : List ℕ) (said : Said A) (room : ℕ) : Type 0 where
  pub value : A
  pub is : said ≡ gives value
  pub stands : standing_said s said ≡ gives value
  pub fits : ltb room 3 ≡ false

module _ {A : Type 0} (s : List ℕ) (room : ℕ) where
  numbers : {x y : Said A} → 0 ≡ replied_number x room → x ≡ y → 0 ≡ replied_number y room
  numbers h e = h ∙ ap (λ (x : Said A). replied_number x room) e

  given_by : (t : Bool) → eqb (last_chip s).setup.part 0 ≡ t → (said : Said A) → Numbered said → (f : Bool) → ltb room 3 ≡ f
      → 0 ≡ replied_number (standing_said s said) room → Given s said room
  given_by true e said p f g h = absurd (no_chip s (eqb-true _ _ e) (sym (numbers h (standing_none s said e))))
  given_by false e (refuses n) p f g h = absurd (p (sym (numbers h (standing_some s (refuses n) e))))
  given_by false e (gives a) p true g h =
      absurd (small 5 refl (sym (numbers h (standing_some s (gives a) e) ∙ ap (λ (t : Bool). cond t 5 0) g)))
  given_by false e (gives a) p false g h = record { value = a; is = refl; stands = standing_some s (gives a) e; fits = g }

  pub given : (said : Said A) → Numbered said → 0 ≡ replied_number (standing_said s said) room → Given s said room
  given said p h = given_by (eqb (last_chip s).setup.part 0) refl said p (ltb room 3) refl h

-- NUMBER 0 of toralinge_bleed is a proposal of the chip that stands, written
pub record Proposes (s : List ℕ) (margin : ℕ) (old new : List ℕ) : Type 0 where
  pub choice : Choice
  pub is : proposal_said margin (last_chip s) ≡ gives choice
  pub wrote : new ≡ choice_bytes choice ++ drop 3 old

pub done_bleeds : (s : List ℕ) (margin : ℕ) (old new : List ℕ) → Bled (proposal_at s margin) old 0 new → Proposes s margin old new
done_bleeds s margin old new b =
    let g : Given s (proposal_said margin (last_chip s)) (length old) =
    given s (length old) _ (proposal_numbered margin (last_chip s)) b.answer in
    record {
      choice = g.value;
      is = g.is;
      wrote = b.contents ∙ ap (λ (x : Said Choice). bled_bytes x old) g.stands
          ∙ ap (λ (t : Bool). cond t old (choice_bytes g.value ++ drop 3 old)) g.fits;
    }

-- .. and of toralinge_reply the word of the chip that stands, with its PEC
abbrev word_of : List ℕ → ℕ → ℕ → Said ℕ
word_of s command r = word_for (pack_of (last_chip s)) (linked_total (last_chip s)) command r

pub record Replies (s : List ℕ) (command r : ℕ) (old new : List ℕ) : Type 0 where
  pub word : ℕ
  pub is : word_of s command r ≡ gives word
  pub wrote : new ≡ reply_bytes command word ++ drop 3 old

pub done_replies : (s : List ℕ) (command r : ℕ) (old new : List ℕ) → Replied (word_at s command r) command old 0 new
    → Replies s command r old new
done_replies s command r old new b =
    let g : Given s (word_of s command r) (length old) =
    given s (length old) _ (word_numbered (pack_of (last_chip s)) (linked_total (last_chip s)) command r) b.answer in
    record {
      word = g.value;
      is = g.is;
      wrote = b.contents ∙ ap (λ (x : Said ℕ). replied_bytes x command old) g.stands
          ∙ ap (λ (t : Bool). cond t old (reply_bytes command g.value ++ drop 3 old)) g.fits;
    }

-- two answers of toralinge_bleed; those of toralinge_reply are care's `same_reply`
pub same_bled : {said : Said Choice} {old new other : List ℕ} {r t : ℕ} → Bled said old r new → Bled said old t other
    → (r ≡ t) × (new ≡ other)
same_bled p q = (p.answer ∙ sym q.answer, p.contents ∙ sym q.contents)
