-- The laws of an answer's line: bytes as numbers (Numbers), and the line of an outcome and its pair (Readback).
pub mod Numbers
pub mod Readback
