-- What a server is to its caller.
use Rattle.std.specs.Prelude.{ℕ}
use Rattle.sockets.specs.declared.server.Server.{Server}

abbrev pub port_of : Server → ℕ
port_of server = server.port
