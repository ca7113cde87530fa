use Rattle.just_laws.proofs.Orders.{orders_agree}
use Rattle.just_laws.proofs.laws.orders_agree.Goals as goal

pub returns : goal.returns
returns c = orders_agree
