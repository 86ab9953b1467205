-- Sheets at the edges of the rules: A to L, without the `s=` lines that stand behind them, and three published codes.
use Prim.Native.String.{String, ◌++◌}

-- The five-qubit code with a distance, an X logical, a Z logical and a claimed lightest logical.
unfoldable pub five_qubits : (d x z w : String) → String
five_qubits d x z w =
    "n=5\nd=" ++ d ++ "\ng=+XZZXI\ng=+IXZZX\ng=+XIXZZ\ng=+ZXIXZ\nx=" ++ x ++ "\nz=" ++ z ++ "\nw=" ++ w ++ "\n"

-- Admitted, with distance 3.
unfoldable pub sheet_a : String
sheet_a = five_qubits "3" "+XXXXX" "+ZZZZZ" "IYYIX"

-- Admitted too: the X logical has sign -.
unfoldable pub sheet_b : String
sheet_b = five_qubits "3" "-XXXXX" "+ZZZZZ" "IYYIX"

-- 14: the distance is claimed as 5, and w is the X logical, of weight 5.
unfoldable pub sheet_c : String
sheet_c = five_qubits "5" "+XXXXX" "+ZZZZZ" "XXXXX"

-- 13: w is the first generator, of weight 4 as the distance claimed.
unfoldable pub sheet_d : String
sheet_d = five_qubits "4" "+XXXXX" "+ZZZZZ" "XZZXI"

-- 11: the weight of w is 5, and d is 3.
unfoldable pub sheet_e : String
sheet_e = five_qubits "3" "+XXXXX" "+ZZZZZ" "XXXXX"

-- 12: w has weight 3, and anticommutes with a generator.
unfoldable pub sheet_f : String
sheet_f = five_qubits "3" "+XXXXX" "+ZZZZZ" "XXXII"

-- 9: the X logical anticommutes with a generator.
unfoldable pub sheet_g : String
sheet_g = five_qubits "3" "+XIIII" "+ZZZZZ" "IYYIX"

-- 10: the two logicals are one row, and so commute.
unfoldable pub sheet_h : String
sheet_h = five_qubits "3" "+XXXXX" "+XXXXX" "IYYIX"

-- 7: the product of the three generators is -I, since XX times ZZ is -YY.
unfoldable pub sheet_i : String
sheet_i = "n=4\nd=1\ng=+XXII\ng=+ZZII\ng=+YYII\nx=+IIXI\nz=+IIZI\nw=IIXI\n"

-- 8: with sign - the third generator is the product of the others.
unfoldable pub sheet_j : String
sheet_j = "n=4\nd=1\ng=+XXII\ng=+ZZII\ng=-YYII\nx=+IIXI\nz=+IIZI\nw=IIXI\n"

-- Admitted, with distance 1, so that nothing but I is corrected.
unfoldable pub sheet_k : String
sheet_k = "n=2\nd=1\ng=+ZZ\nx=+XX\nz=+ZI\nw=ZI\n"

-- Admitted: the seven-qubit code, whose generators have X, and then Z, at the ones of 0001111, 0110011 and 1010101.
unfoldable pub sheet_l : String
sheet_l =
    "n=7\nd=3\ng=+IIIXXXX\ng=+IXXIIXX\ng=+XIXIXIX\ng=+IIIZZZZ\ng=+IZZIIZZ\ng=+ZIZIZIZ\n"
    ++ "x=+XXXXXXX\nz=+ZZZZZZZ\nw=XXXIIII\n"

-- The nine-qubit code: ZZ on neighbours in each of three blocks, then X on the first two blocks and on the last two.
unfoldable pub nine_qubits : String
nine_qubits =
    "n=9\nd=3\ng=+ZZIIIIIII\ng=+IZZIIIIII\ng=+IIIZZIIII\ng=+IIIIZZIII\ng=+IIIIIIZZI\ng=+IIIIIIIZZ\n"
    ++ "g=+XXXXXXIII\ng=+IIIXXXXXX\nx=+ZZZZZZZZZ\nz=+XXXXXXXXX\nw=XXXIIIIII\n"

-- A published code of eight qubits and three pairs of logicals, with all signs +. The w is ours.
unfoldable pub eight_qubits : String
eight_qubits =
    "n=8\nd=3\ng=+XXXXXXXX\ng=+ZZZZZZZZ\ng=+IXIXYZYZ\ng=+IXZYIXZY\ng=+IYXZXZIY\nx=+XXIIIZIZ\nx=+XIXZIIZI\nx=+XIIZXZII\n"
    ++ "z=+IZIZIZIZ\nz=+IIZZIIZZ\nz=+IIIIZZZZ\nw=IIIIIZXY\n"

-- A published code of four qubits and two pairs of logicals, with all signs +, but for its last row; as printed, that
-- is +IXZZ. The w is ours.
unfoldable pub four_qubits : String → String
four_qubits lastZ =
    "n=4\nd=2\ng=+XZZX\ng=+YXXY\nx=+XXXX\nx=+XIXZ\nz=+YZYI\nz=" ++ lastZ ++ "\nw=XIXI\n"
