-- The kinds of bytes. Assumes nothing.
--     kind_of b       the kind of the byte b
use Rattle.std.specs.Prelude.{ℕ, cond, ◌&&◌, ◌==◌, nat_le}
use Rattle.text.specs.declared.kind.Kind.{Kind}
use Rattle.text.specs.declared.kind.Kind.TheVariants.{Letter, Digit, Hyphen, Tilde, Open, Close, Space, LineFeed, Other}

-- 97 to 122 are a to z, 48 to 57 are 0 to 9, 45 is the hyphen, 126 is ~, 40 and 41 are the brackets, 32 is the space, 10 the line feed
abbrev pub kind_of : ℕ → Kind
kind_of b =
    cond (nat_le 97 b && nat_le b 122) Letter
    (cond (nat_le 48 b && nat_le b 57) Digit
    (cond (b == 45) Hyphen
    (cond (b == 126) Tilde
    (cond (b == 40) Open
    (cond (b == 41) Close
    (cond (b == 32) Space
    (cond (b == 10) LineFeed Other)))))))
