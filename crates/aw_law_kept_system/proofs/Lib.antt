mod Cutting
mod Keeping
mod Serving
