use Rattle.std.proofs.Common.{◌≡◌, ◌+◌, ◌++◌, take, vec_items, vec_len, vec_capacity}
use Rattle.text.proofs.sources.push_all.Given as goal

abbrev pub invariant-loop-element : goal.invariant-loop-element
invariant-loop-element g l =
    (vec_items l.items ≡ vec_items l.initial.items ++ take l.element-index l.new)
    × (vec_len l.items ≡ vec_len l.initial.items + l.element-index)
    × (vec_capacity l.items ≡ vec_capacity l.initial.items)
