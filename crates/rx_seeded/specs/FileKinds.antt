-- The kinds of binary files, which their first four bytes tell.
use Rattle.std.specs.Prelude.{ℕ, List, take, codes, Bool, if◌then◌else◌, Option, Some, None}
use Rattle.std.specs.Str.{bytes_eq}
use Rattle.rx_seeded.specs.declared.kind.FileKind.{FileKind}
use Rattle.rx_seeded.specs.declared.kind.FileKind.TheVariants.{Client, Server, SeededServer, Cipher, SeededCipher, Net, Pairs}

-- whether a file begins with these four bytes
abbrev pub begins : List ℕ → List ℕ → Bool
begins file magic = bytes_eq (take 4 file) magic

-- the kind of a file, none where its first four bytes are missing or no magic
abbrev pub kind_of : List ℕ → Option FileKind
kind_of file =
    if begins file (codes "RXC1") then Some Client
    else if begins file (codes "RXS1") then Some Server
    else if begins file (codes "RXS2") then Some SeededServer
    else if begins file (codes "RXE1") then Some Cipher
    else if begins file (codes "RXE2") then Some SeededCipher
    else if begins file (codes "RXN1") then Some Net
    else if begins file (codes "RXM1") then Some Pairs
    else None
