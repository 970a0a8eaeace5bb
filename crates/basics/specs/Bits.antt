-- Bits of a number.
--
--   bit n k     == bit k of n is set, counted from the low end
--   bits_of n p == the number whose bit k is set exactly where k < n and p k
use Rattle.std.specs.Prelude.{ℕ, zero, suc, ◌/◌, ◌%◌, ◌^◌, Bool, eqb}
use Rattle.std.specs.Int.Bits.{bit_or}
use Rattle.basics.specs.Bounded.{pick}

abbrev pub bit : ℕ → ℕ → Bool
bit n k = eqb (n / 2 ^ k % 2) 1

unfoldable pub bits_of : ℕ → (ℕ → Bool) → ℕ
bits_of zero p = 0
bits_of (suc n) p = bit_or (bits_of n p) (pick (p n) (2 ^ n) 0)
