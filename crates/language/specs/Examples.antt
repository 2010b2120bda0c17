-- Texts with what they read as, spelt out. A new case is a line.
use Rattle.std.specs.Prelude.{List, [], ◌∷◌, ℕ, ℤ, pos, neg_ℤ, Ok}
use Prim.Native.String.{String}
use Rattle.forms.specs.declared.Flaw.TheVariants.{Text, Product, Size}
use Rattle.forms.specs.declared.Sense.{Sense}
use Rattle.forms.specs.declared.Sense.TheVariants.{AtMost, AtLeast}
use Rattle.forms.specs.Value.{Typed, no_rule}

pub record Example : Type 0 where
  pub written : String
  pub reads : Typed

abbrev row : String → Typed → Example
row written reads = record { written = written; reads = reads }

abbrev rule : Sense → ℤ → ℤ → ℤ → Typed
rule sense a b c = Ok (record { sense = sense; a = a; b = b; c = c })

abbrev minus : ℕ → ℤ
minus n = neg_ℤ (pos n)

abbrev pub examples : List Example
examples =
    -- document 02's, and both relations; a and b left less right, c right less left
    row "2*(x + 3*y) - y <= 40 + x" (rule AtMost (pos 1) (pos 5) (pos 40))
    ∷ row "x>=1" (rule AtLeast (pos 1) (pos 0) (pos 1))
    ∷ row "x+3<=y-4" (rule AtMost (pos 1) (minus 1) (minus 7))
    -- equals from the left; a minus tighter than *, * tighter than -
    ∷ row "x-y-y>=0" (rule AtLeast (pos 1) (minus 2) (pos 0))
    ∷ row "0*-x*y<=1" (rule AtMost (pos 0) (pos 0) (pos 1))
    ∷ row "x-2*y<=1" (rule AtMost (pos 1) (minus 2) (pos 1))
    ∷ row "x--y<=1" (rule AtMost (pos 1) (pos 1) (pos 1))
    -- spaces before, between and after items, and not inside one
    ∷ row "  x  +  1  <=  1  " (rule AtMost (pos 1) (pos 0) (pos 0))
    ∷ row "x< =1" (no_rule Text)
    ∷ row "1 0<=x" (no_rule Text)
    -- a product's flaw, at the first product of two operands that both have a coefficient
    ∷ row "(x-x)*y<=1" (rule AtMost (pos 0) (pos 0) (pos 1))
    ∷ row "x*y*0<=0" (no_rule Product)
    -- a size's flaw, at a number and at an operation
    ∷ row "0*1000000001<=x" (no_rule Size)
    ∷ row "1000000000<=x" (rule AtMost (minus 1) (pos 0) (minus 1000000000))
    ∷ row "1000000000+1-1<=x" (no_rule Size)
    ∷ row "-1000000000-1+1<=x" (no_rule Size)
    ∷ row "2*500000001*0<=x" (no_rule Size)
    -- which flaw comes first: the left side's, the left operand's, a product's before a size's
    ∷ row "1000000001<=x*y" (no_rule Size)
    ∷ row "x*y+1000000001<=0" (no_rule Product)
    ∷ row "1000000000*x*(2*x)<=0" (no_rule Product)
    ∷ row "x*y<=1000000001<=" (no_rule Text)
    -- the limits of the final numbers and of the language
    ∷ row "32767*x<=0" (rule AtMost (pos 32767) (pos 0) (pos 0))
    ∷ row "32768*x<=0" (no_rule Size)
    ∷ row "-32767*x<=0" (rule AtMost (minus 32767) (pos 0) (pos 0))
    ∷ row "-32768*x<=0" (no_rule Size)
    ∷ row "32767*y<=0" (rule AtMost (pos 0) (pos 32767) (pos 0))
    ∷ row "32768*y<=0" (no_rule Size)
    ∷ row "x-1000000000<=0" (rule AtMost (pos 1) (pos 0) (pos 1000000000))
    ∷ row "x-1000000000<=1" (no_rule Size)
    ∷ row "((((((((x))))))))<=1" (rule AtMost (pos 1) (pos 0) (pos 1))
    ∷ row "(((((((((x)))))))))<=1" (no_rule Text)
    ∷ row "x<=((((((((1))))))))" (rule AtMost (pos 1) (pos 0) (pos 1))
    ∷ row "x<=(((((((((1)))))))))" (no_rule Text)
    ∷ row "0000000001<=x" (rule AtMost (minus 1) (pos 0) (minus 1))
    ∷ row "00000000001<=x" (no_rule Text)
    -- 120 and 121 bytes, most of them spaces: of a row that takes far more steps the checker would not say in what it is wrong
    ∷ row "x<=                                                         1                                                           " (rule AtMost (pos 1) (pos 0) (pos 1))
    ∷ row "x<=                                                         1                                                            " (no_rule Text)
    ∷ []
