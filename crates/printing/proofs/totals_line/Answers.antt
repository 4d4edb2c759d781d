use Rattle.std.proofs.Common.{rules}
use Rattle.std.specs.Str.{IsUtf8}
use Rattle.printing.proofs.Hexadecimals.{hex_text}
use Rattle.printing.proofs.totals_line.Goals as goal

pub unwrap-requires : goal.unwrap-requires
unwrap-requires c =
    let text : IsUtf8 c.hexadecimal-digits.result = rw (c.hexadecimal-digits.ensures.digits) (hex_text c.args.value) in
    search rules
