use Rattle.std.proofs.Common.{length, get_or, ap, ◌∙◌, arith}
use Rattle.pieces.proofs.Elements.{part_long}
use Rattle.reading.proofs.LineReads.{found_inside}
use Rattle.reading.proofs.Places.{element_found}
use Rattle.reading.proofs.reader.Reader.element_at.Goals as goal

pub part-part-requires : goal.part-part-requires
part-part-requires g c =
    record { inside = found_inside c.args.self.now.sources.original.now c.args.self.now.sources.added.now c.args.self.now.inside c.find-found.ensures.stands }

-- the part has the place that is found
pub bounds-part-found : goal.bounds-part-found
bounds-part-found g c =
    let original = c.args.self.now.sources.original.now in
    let added = c.args.self.now.sources.added.now in
    let i = c.find-found.result.item in
    let long = part_long original added i.piece i.length (found_inside original added c.args.self.now.inside c.find-found.ensures.stands) in
    omega (arith, long, ap length c.part-part.ensures, c.find-found.ensures.inner)

pub offset_bounds-part-found : goal.offset_bounds-part-found
offset_bounds-part-found g c = let below = bounds-part-found g c in omega (arith, below)

pub returns : goal.returns
returns g c =
    let f = c.find-found.ensures in
    let e = c.index-part-found.result in
    element_found f.stands f.offset f.inner c.args.self.now.sources.original.now c.args.self.now.sources.added.now e c.args.self.now.inside
    (c.index-part-found.is ∙ ap (λ part. get_or part c.find-found.result.inner e) c.part-part.ensures)
