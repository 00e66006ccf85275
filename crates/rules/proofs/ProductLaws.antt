-- The laws of accounts, of explanation and of waits hold of every run of the product's machine.
use Rattle.book.specs.Meaning.{Kind}
use Rattle.rules.specs.Queue.{product_policy}
use Rattle.rules.specs.Laws.{ProductLawful}
use Rattle.rules.proofs.AccountsLaw.{law_of_accounts}
use Rattle.rules.proofs.Explanation.{law_of_explanation}
use Rattle.rules.proofs.ProductOrder.{product_covers}
use Rattle.rules.proofs.WaitsLaw.{law_of_waits}

pub product_lawful : (k : Kind) → ProductLawful k
product_lawful k keeps lines book good stamps calls =
    record {
      accounts = law_of_accounts k keeps (product_policy k) lines book good stamps calls;
      explained = law_of_explanation k (law_of_accounts k) keeps
          (product_policy k) lines book good stamps calls;
      waits = law_of_waits k keeps (product_policy k)
          (product_covers k) lines book good stamps calls;
    }
