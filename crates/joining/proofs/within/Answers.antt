-- `joining::within` meets its contract: both lengths are tested, the site's first.
use mathlib.Core.Path.{sym, ap, ◌∙◌}
use mathlib.Core.Bool.{◌&&◌}
use lib.Dec.{leb}
use lib.ListN.{length}
use borrow.Author.Tests.{le-leb, lt-leb}
use Rattle.joining.proofs.within.Goals as goal

pub returns-then-site-bytes : goal.returns-then-site-bytes
returns-then-site-bytes c =
    let a = c.args in
    sym (ap (λ b. b && leb (length a.tenant.now) a.bytes) (le-leb (length a.site.now) a.bytes c.if-site-bytes.true))

pub returns-else-site-bytes : goal.returns-else-site-bytes
returns-else-site-bytes c =
    let a = c.args in
    let e = lt-leb (length a.site.now) a.bytes c.if-site-bytes.false in
    e ∙ sym (ap (λ b. b && leb (length a.tenant.now) a.bytes) e)
