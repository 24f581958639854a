-- The flags number and its parts.
use Rattle.std.specs.Prelude.{ℕ, ◌+◌, ◌*◌, ◌/◌, ◌%◌, eqb}
use Rattle.octets.specs.Bits.{bit_of}
use Rattle.frame.specs.declared.Flags.{Flags}

-- "Flags: bit 0 link fault, 1 dying gasp, 2 critical event, 4:3 local field, 6:5 remote field, others sent 0 and ignored."
abbrev pub flags_of : ℕ → Flags
flags_of n =
    record {
      fault = eqb (n % 2) 1;
      gasp = eqb (n / 2 % 2) 1;
      critical = eqb (n / 4 % 2) 1;
      local = n / 8 % 4;
      remote = n / 32 % 4;
    }

-- the number of the parts, each field cut to its two bits; the other bits are "sent 0"
unfoldable pub flags_number : Flags → ℕ
flags_number f = f.remote % 4 * 32 + (f.local % 4 * 8 + (bit_of f.critical * 4 + (bit_of f.gasp * 2 + bit_of f.fault)))
