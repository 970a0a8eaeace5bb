-- `masks::without` meets its contract: exclusive or with mask & bit turns off the bit where it is set. Assumes nothing.
use mathlib.Core.Path.{ap, ◌∙◌}
use lib.Bits.{bit_and, bit_xor}
use Rattle.basics.specs.Bits.{bit}
use Rattle.basics.proofs.Bits.{without-bit}
use Rattle.masks.proofs.Windows.{dir-shifted}
use Rattle.masks.proofs.without.Goals as goal

pub returns : goal.returns
returns c = record {
  at = λ j.
      ap (λ b. bit (bit_xor c.args.mask (bit_and c.args.mask b)) j) (dir-shifted c.args.k c.requires)
      ∙ without-bit c.args.mask c.args.k j;
}
