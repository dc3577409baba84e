-- The line of a server, and the numbers of refusals.
use Rattle.std.specs.Prelude.{ℕ, List, ◌++◌, codes}
use Rattle.std.specs.Fmt.{decimal}
use Rattle.sockets.specs.declared.fault.SocketFault.{SocketFault}
use Rattle.sockets.specs.declared.fault.SocketFault.TheVariants.{PeerFailed, OutOfMemory}

abbrev pub listening : ℕ → List ℕ
listening port = codes "listening on 127.0.0.1:" ++ (decimal port ++ codes "\n")

abbrev pub number_of : SocketFault → ℕ
number_of PeerFailed = 49
number_of OutOfMemory = 70
