-- The host's own folders, their open files, and what an error of the host is.
use Rattle.std.specs.Prelude.{◌≡◌, ◌≢◌, ℕ}
use Rattle.std.specs.IoError.{error_kind}
use Rattle.std.specs.declared.io.ErrorKind.TheVariants as kind
use Rattle.std.specs.declared.io.Error.{Error}
use Rattle.fleet_disk.specs.declared.calls.HostCalls.{Ghosts}
use Rattle.fleet_disk.specs.declared.files.StdFiles.{StdFiles}
use Rattle.fleet_disk.specs.declared.folder_fault.FolderFault.{FolderFault}
use Rattle.fleet_disk.specs.declared.folder_fault.FolderFault.TheVariants.{DeviceFailed, OutOfMemory}
use Rattle.fleet_disk.specs.declared.folder_files.FolderFiles.{FolderFiles}
use Rattle.fleet_disk.specs.declared.host.HostDisk.{HostDisk}

-- how often a call of the host has failed
abbrev pub failures_of : {F : Type 0} {G : Ghosts (StdFiles F)} → HostDisk (StdFiles F) G → ℕ
failures_of disk = disk.host.failures

-- the files that a disk is over
abbrev pub files_of : {F : Type 0} {G : Ghosts (StdFiles F)} → HostDisk (StdFiles F) G → FolderFiles F
files_of disk = disk.host.files

-- want of memory is told as such, and any other error as the device's failure
abbrev pub IsFaultOf : FolderFault → Error → Type 0
IsFaultOf DeviceFailed error = error_kind error ≢ kind.OutOfMemory
IsFaultOf OutOfMemory error = error_kind error ≡ kind.OutOfMemory
