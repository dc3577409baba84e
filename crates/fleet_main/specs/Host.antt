-- The folders of a host.
use Rattle.fleet_main.specs.declared.folders.HostFolders.{HostFolders}

-- the host's calls that they are kept by
abbrev pub calls_of : {C : Type 0} → HostFolders C → C
calls_of folders = folders.calls
