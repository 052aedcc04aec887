use Rattle.std.proofs.Common.{◌≡◌, None, vec_items, sym, subst, arith}
use Rattle.std.specs.Prelude.{MatchOption}
use Rattle.rows.specs.Row.{cells_of}
use Rattle.indexes.specs.Meaning.{held}
use Rattle.indexes.specs.Buckets.{leads_of, Located}
use Rattle.indexes.specs.Held.{bucket_high, walk_found}
use Rattle.indexes.proofs.chained.Chained.place.Goals as goal

pub index-head-requires : goal.index-head-requires
index-head-requires c = omega (arith, c.bucket.ensures, bucket_high c.args.s.now.op (cells_of c.args.s.now.row), c.args.self.now.buckets)

pub returns : goal.returns
returns c =
    let s = c.args.self.now in
    let o = c.args.s.now.op in
    let w = cells_of c.args.s.now.row in
    subst (λ r. MatchOption r (held (leads_of (vec_items s.cells)) o w ≡ None) (Located (vec_items s.cells) (vec_items s.heads) o w)) (sym c.unwrap_or.ensures)
    (walk_found s o w c.bucket.result c.index-head.result.now c.as_slice.result.now c.walk.result c.bucket.ensures c.index-head.ensures c.as_slice.ensures.value c.walk.ensures.chain)
