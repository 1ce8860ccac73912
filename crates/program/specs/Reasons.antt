-- Why a file cannot be read or written, in words. Assumes nothing.
use Rattle.std.specs.Prelude.{ℕ, ℤ, unsigned_abs, if◌then◌else◌, List, [], Some, None, Option, codes, ◌==◌}
use Rattle.std_io.specs.declared.io.kind.ErrorKind.{ErrorKind}
use Rattle.std_io.specs.declared.io.kind.ErrorKind.TheVariants as kind
use Rattle.program.specs.Phrases.{numbered}
use Rattle.program.specs.declared.reason.Reason.{Reason}
use Rattle.program.specs.declared.reason.Reason.TheVariants.{NoFile, NoPermission, Folder, NoFolder, Links, Name, Space, TooLarge, ReadOnly, NoReader, Memory, Closed, System, Unknown, Input, Stream, Special}

-- the reason by its number alone
abbrev pub by_number : ℕ → Reason
by_number n = if n == 9 then Closed else System n

-- the reason of an error without a kind of its own
abbrev pub other_reason : Option ℤ → Reason
other_reason (Some code) = by_number (unsigned_abs code)
other_reason None = Unknown

-- the reason of an error of this kind and number
abbrev pub reason_of : ErrorKind → Option ℤ → Reason
reason_of kind.NotFound code = NoFile
reason_of kind.PermissionDenied code = NoPermission
reason_of kind.IsADirectory code = Folder
reason_of kind.NotADirectory code = NoFolder
reason_of kind.FilesystemLoop code = Links
reason_of kind.InvalidFilename code = Name
reason_of kind.StorageFull code = Space
reason_of kind.QuotaExceeded code = Space
reason_of kind.FileTooLarge code = TooLarge
reason_of kind.ReadOnlyFilesystem code = ReadOnly
reason_of kind.BrokenPipe code = NoReader
reason_of kind.OutOfMemory code = Memory
reason_of _ code = other_reason code

-- its text
abbrev pub reason_text : Reason → List ℕ
reason_text NoFile = codes "no such file or folder"
reason_text NoPermission = codes "no permission"
reason_text Folder = codes "it is a folder"
reason_text NoFolder = codes "a part of its path is no folder"
reason_text Links = codes "too many links"
reason_text Name = codes "the name is too long"
reason_text Space = codes "no space left"
reason_text TooLarge = codes "the file would be too large"
reason_text ReadOnly = codes "the disk is read-only"
reason_text NoReader = codes "nobody reads it"
reason_text Memory = codes "out of memory"
reason_text Closed = codes "it is closed"
reason_text (System code) = numbered (codes "system error ") code []
reason_text Unknown = codes "it failed"
reason_text Input = codes "it is read"
reason_text Stream = codes "it is a standard stream"
reason_text Special = codes "it is no ordinary file"
