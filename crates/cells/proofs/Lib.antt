-- What the code writes (Written), and that it reads back (Readback).
pub mod Written
pub mod Readback
