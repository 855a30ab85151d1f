-- CHIP B1 to B18 as they are read: which byte of the host is acknowledged, when the bus goes idle, where the pointer goes, and what a read
-- takes, in every phase. Addresses and answers are the paper's numbers here. Assumes nothing.
use Rattle.std.specs.Prelude.{◌≡◌, refl, Bool, true, false, ◌&&◌, ◌||◌, cond, ℕ, ◌+◌, ◌*◌, ◌%◌, eqb, leb, Some, None}
use Rattle.std.proofs.Common.{arith}
use Rattle.crc8.specs.Crc.{byte_on}
use Rattle.events.specs.declared.Setup.{Setup}
use Rattle.bus.specs.declared.Phase.{Phase}
use Rattle.bus.specs.declared.Phase.TheVariants.{Idle, Address, Pointing, Writing, Checking, Reading, Summing}
use Rattle.bus.specs.declared.Line.{Line}
use Rattle.bus.specs.declared.Owed.{Owed}
use Rattle.bus.specs.declared.Outed.{Outed}
use Rattle.bus.specs.Bus.{Store, At, started, stopped, goes, refuses, stores, addressed, fed, checked, out_in, outed}
use Rattle.bus.specs.Bus.{after_data, after_sum, taken, byte_given, keeps, owing, takes}

-- ── OUT ──
-- it is acknowledged: the address byte of this chip, the pointer, a data byte, and a CRC that is right; in no other phase
abbrev pub acknowledged : Setup → Phase → ℕ → Bool
acknowledged u Idle b = false
acknowledged u Address b = eqb b (2 * u.address) || eqb b (2 * u.address + 1)
acknowledged u (Pointing s) b = true
acknowledged u (Writing s) b = true
acknowledged u (Checking v s) b = eqb b s
acknowledged u (Reading s k) b = false
acknowledged u (Summing k) b = false

-- the data byte that it stores: at once, or with CRC on when its CRC is right
abbrev pub storing : Setup → Phase → ℕ → ℕ → Store
storing u Idle a b = None
storing u Address a b = None
storing u (Pointing s) a b = None
storing u (Writing s) a b = cond u.crc None (At a b)
storing u (Checking v s) a b = cond (eqb b s) (At a v) None
storing u (Reading s k) a b = None
storing u (Summing k) a b = None

-- what is awaited after an acknowledged byte
abbrev pub awaited : Setup → Phase → ℕ → Phase
awaited u Idle b = Idle
awaited u Address b = cond (eqb b (2 * u.address)) (Pointing (byte_on 0 b)) (Reading (byte_on 0 b) false)
awaited u (Pointing s) b = Writing (byte_on s b)
awaited u (Writing s) b = cond u.crc (Checking b (byte_on s b)) (Writing 0)
awaited u (Checking v s) b = Writing 0
awaited u (Reading s k) b = Idle
awaited u (Summing k) b = Idle

-- the pointer: the byte that is sent for it; after a data byte that is stored one more, 0xFF to 0x00
abbrev pub pointed : Phase → ℕ → ℕ → Store → ℕ
pointed Idle a b w = a
pointed Address a b w = a
pointed (Pointing s) a b w = b
pointed (Writing s) a b None = a
pointed (Writing s) a b (Some w) = (a + 1) % 256
pointed (Checking v s) a b None = a
pointed (Checking v s) a b (Some w) = (a + 1) % 256
pointed (Reading s k) a b w = a
pointed (Summing k) a b w = a

-- every byte that the host sends: not acknowledged it idles the bus and stores nothing
abbrev pub out_by : Setup → Phase → ℕ → ℕ → Outed
out_by u p a b =
    record {
      line =
          record { phase = cond (acknowledged u p b) (awaited u p b) Idle; pointer = pointed p a b (storing u p a b) };
      acked = acknowledged u p b;
      byte = cond (acknowledged u p b) 0 1;
      store = storing u p a b;
    }

twice : (n : ℕ) → n * 2 ≡ 2 * n
twice n = omega arith

pub out_is : (u : Setup) (l : Line) (b : ℕ) → outed u l b ≡ out_by u l.phase l.pointer b
unfolding outed addressed fed checked
out_is u l b = by l.phase l.pointer
  where
    by : (p : Phase) (a : ℕ) → out_in u p a b ≡ out_by u p a b
    by Idle a = refl
    by Address a = simp (twice u.address) (each (eqb b (2 * u.address)) (eqb b (2 * u.address + 1)))
      where
        each : (x y : Bool) → cond x (goes (Pointing (byte_on 0 b)) a) (cond y (goes (Reading (byte_on 0 b) false) a) (refuses a))
            ≡ record {
              line = record { phase = cond (x || y) (cond x (Pointing (byte_on 0 b)) (Reading (byte_on 0 b) false)) Idle; pointer = a };
              acked = x || y;
              byte = cond (x || y) 0 1;
              store = None;
            }
        each true y = refl
        each false true = refl
        each false false = refl
    by (Pointing s) a = refl
    by (Writing s) a = each u.crc
      where
        each : (x : Bool) → cond x (goes (Checking b (byte_on s b)) a) (stores a b)
            ≡ record {
              line =
                  record {
                    phase = cond x (Checking b (byte_on s b)) (Writing 0);
                    pointer = pointed (Writing s) a b (cond x None (At a b));
                  };
              acked = true;
              byte = 0;
              store = cond x None (At a b);
            }
        each true = refl
        each false = refl
    by (Checking v s) a = each (eqb b s)
      where
        each : (x : Bool) → cond x (stores a v) (refuses a)
            ≡ record {
              line = record { phase = cond x (Writing 0) Idle; pointer = pointed (Checking v s) a b (cond x (At a v) None) };
              acked = x;
              byte = cond x 0 1;
              store = cond x (At a v) None;
            }
        each true = refl
        each false = refl
    by (Reading s k) a = refl
    by (Summing k) a = refl

-- START begins afresh, STOP ends; the pointer outlives both
pub start_stop : (l : Line)
    → (started l ≡ record { phase = Address; pointer = l.pointer }) × (stopped l ≡ record { phase = Idle; pointer = l.pointer })
start_stop l = (refl, refl)

-- ── IN ──
-- the pairs: even, 0x0C to 0x32
abbrev pub paired : ℕ → Bool
paired a = eqb (a % 2) 0 && leb 0x0C a && leb a 0x32

-- the line: a data byte makes the pointer grow, and its CRC comes next where CRC is on; a host that does not acknowledge idles the bus;
-- in every other phase it stays
abbrev pub in_by : Setup → Phase → ℕ → Bool → Line
in_by u Idle a nack = record { phase = Idle; pointer = a }
in_by u Address a nack = record { phase = Address; pointer = a }
in_by u (Pointing s) a nack = record { phase = Pointing s; pointer = a }
in_by u (Writing s) a nack = record { phase = Writing s; pointer = a }
in_by u (Checking v s) a nack = record { phase = Checking v s; pointer = a }
in_by u (Reading s k) a nack =
    record { phase = cond nack Idle (cond u.crc (Summing (paired a)) (Reading 0 (paired a))); pointer = (a + 1) % 256 }
in_by u (Summing k) a nack = record { phase = cond nack Idle (Reading 0 k); pointer = a }

-- the byte given: the register, or the low byte that is kept; its CRC; 0xFF when not reading
abbrev pub gave_by : Phase → ℕ → Owed → ℕ
gave_by Idle here o = 0xFF
gave_by Address here o = 0xFF
gave_by (Pointing s) here o = 0xFF
gave_by (Writing s) here o = 0xFF
gave_by (Checking v s) here o = 0xFF
gave_by (Reading s k) here o = cond k o.low here
gave_by (Summing k) here o = o.sum

-- what is owed: the CRC of the byte given, and the low byte of a pair
abbrev pub owed_by : Phase → ℕ → ℕ → ℕ → Owed → Owed
owed_by Idle a here low o = o
owed_by Address a here low o = o
owed_by (Pointing s) a here low o = o
owed_by (Writing s) a here low o = o
owed_by (Checking v s) a here low o = o
owed_by (Reading s k) a here low o = record { sum = byte_on s (cond k o.low here); low = cond (paired a) low o.low }
owed_by (Summing k) a here low o = o

pub in_is : (u : Setup) (here low : ℕ) (nack : Bool) (p : Phase) (a : ℕ) (o : Owed)
    → takes u here low nack (record { line = record { phase = p; pointer = a }; owed = o })
    ≡ record { bus = record { line = in_by u p a nack; owed = owed_by p a here low o }; byte = gave_by p here o }
unfolding taken byte_given owing after_data after_sum keeps
in_is u here low nack Idle a o = refl
in_is u here low nack Address a o = refl
in_is u here low nack (Pointing s) a o = refl
in_is u here low nack (Writing s) a o = refl
in_is u here low nack (Checking v s) a o = refl
in_is u here low nack (Reading s k) a o = refl
in_is u here low nack (Summing k) a o = refl
