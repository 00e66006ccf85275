use Rattle.rules.proofs.ProductLaws.{product_lawful}
use Rattle.rules.proofs.ProductOrder.{product_covers}
use Rattle.rules.proofs.product_is_lawful.Goals as goal

pub returns : goal.returns
returns g c =
    record { covers = product_covers g.B.Versions.kind; lawful = product_lawful g.B.Versions.kind }
