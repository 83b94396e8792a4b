-- `decide::belongs_to` meets its contract: a server's packet belongs to a connection of the server that it comes from.
use Rattle.std.proofs.Common.{rules}
use Rattle.director.proofs.decide.belongs_to.Goals as goal

pub returns-in-Server : goal.returns-in-Server
returns-in-Server c = rw c.in-Server.is (search rules)
