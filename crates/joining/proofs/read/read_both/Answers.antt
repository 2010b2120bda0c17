-- `joining::read::read_both` meets its contract: the tenant's chain stands behind the site's (`reads_both`).
use Rattle.joining.proofs.Both.{behind-site, reads_both}
use Rattle.joining.proofs.read.read_both.Goals as goal

pub read_behind-requires-in-Ok : goal.read_behind-requires-in-Ok
read_behind-requires-in-Ok c =
    let a = c.args in
    let first = c.read_behind in
    behind-site a.site.now a.tenant.now a.names.now a.entries.now c.requires first.new.names first.new.entries first.ensures
    c.in-Ok.site c.in-Ok.is

pub returns-in-Ok-read_behind : goal.returns-in-Ok-read_behind
returns-in-Ok-read_behind c =
    let a = c.args in
    let first = c.read_behind in
    let second = c.read_behind-in-Ok in
    reads_both a.site.now a.tenant.now a.names.now a.entries.now c.requires first.new.names first.new.entries first.ensures
    c.in-Ok.site c.in-Ok.is second.new.names second.new.entries second.ensures c.in-Ok-read_behind.tenant c.in-Ok-read_behind.is
