-- `packing::record_bytes` meets its contract: the fourteen bytes, one by one (`fourteen`).
use Rattle.packing.proofs.Written.{fourteen}
use Rattle.packing.proofs.record_bytes.Goals as goal

pub returns : goal.returns
returns c =
    let a = c.args in
    fourteen a.link a.kind a.a a.b a.label a.c c.ranges.kind.fits c.to_le_bytes-link.ensures c.to_le_bytes-a.ensures
    c.to_le_bytes-b.ensures c.to_le_bytes-label.ensures c.to_le_bytes-c.ensures
