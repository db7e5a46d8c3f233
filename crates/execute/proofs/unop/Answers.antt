-- `execute::unop` meets its contract.
use borrow.Author.Rules.{rules}
use Rattle.execute.proofs.unop.Goals as goal

pub enum_told-1 : goal.enum_told-1
enum_told-1 c = search rules

pub returns-in-Lneg : goal.returns-in-Lneg
returns-in-Lneg c = rw c.in-Lneg.is c.lneg.ensures

pub returns-in-Nneg : goal.returns-in-Nneg
returns-in-Nneg c = rw c.in-Nneg.is c.nneg.ensures
